-- A number's digits, read back.
use Rattle.std.proofs.Common.{◌≡◌, ℕ, ◌+◌, ◌/◌, ◌%◌, ◌<◌, ◌≤◌, ap, ◌∙◌, arith}
use Rattle.columns.specs.Digits.{digits, one_digit, more_digits, by_tenths, read_back, read_digit, read_more}

-- THEOREM: its digits, read back, are the number.
pub read_digits : (n : ℕ) → read_back (digits n) ≡ n
unfolding read_back
read_digits = by_tenths (λ (n : ℕ). read_back (digits n) ≡ n) small large
  where
    small : (n : ℕ) → n < 10 → read_back (digits n) ≡ n
    small n h = rw (one_digit n h) (read_digit 0 n h ∙ omega arith)

    large : (n : ℕ) → 10 ≤ n → read_back (digits (n / 10)) ≡ n / 10 → read_back (digits n) ≡ n
    large n h e =
        ap read_back (more_digits n h)
        ∙ read_more (digits (n / 10)) (48 + n % 10)
        ∙ rw e (read_digit (n / 10) (n % 10) (omega arith) ∙ omega arith)
