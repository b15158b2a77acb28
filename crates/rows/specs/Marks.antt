-- How the check of a long row keeps the targets that it met: a mark for each, a bit of a word. No answer depends on it.
use Rattle.std.specs.Prelude.{ℕ, ◌+◌, ◌-◌, ◌/◌, ◌%◌, ◌^◌, ◌≡◌, List, Bool, true, cond, get_or, set, ltb, eqb}
use Rattle.std.specs.Int.Bits.{bit_or}
use Rattle.machine.specs.Constants.{state_end}
use Rattle.rows.specs.Row.{is_target, seen_in}

-- the mark of a target: its state's number, then END's and SIGNAL's
unfoldable pub mark_of : ℕ → ℕ → ℕ
mark_of n target = cond (ltb target n) target (cond (eqb target state_end) n (n + 1))

-- whether mark m is set
unfoldable pub is_marked : List ℕ → ℕ → Bool
is_marked marks m = eqb (get_or marks (m / 64) 0 / 2 ^ (m % 64) % 2) 1

-- with mark m set
unfoldable pub marked : List ℕ → ℕ → List ℕ
marked marks m = set marks (m / 64) (bit_or (get_or marks (m / 64) 0) (2 ^ (m % 64)))

-- the marks of a row that begins at `first`, with the transitions before i met
abbrev pub Met : List ℕ → List ℕ → ℕ → ℕ → ℕ → Type 0
Met marks ts n first i =
    (target : ℕ) → is_target n target ≡ true → is_marked marks (mark_of n target) ≡ seen_in ts target (i - first) first
