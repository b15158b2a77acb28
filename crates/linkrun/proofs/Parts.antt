-- What is left of a run's text: the next call's text, and what is left behind it.
use Rattle.std.proofs.Common.{ℕ, suc, ◌+◌, ◌-◌, ◌<◌, ◌≡◌, refl, sym, ap, ◌∙◌, List, [], ◌++◌, append-nil, cond, eqb, add-one, arith, length, take, drop}
use borrow.Author.Tests.{eq-eqb, ne_eqb}
use lib.Seq.{take_at, drop_at, drop-drop}
use Rattle.refusal.specs.declared.Refusal.{Refusal}
use Rattle.refusal.specs.Refusal.{number}
use Rattle.text.specs.Printed.{call_text}
use Rattle.text.proofs.Lines.{length-call_text}
use Rattle.stream.specs.Stream.{call_at, call_count, calls_at, input_refusal, input_words}
use Rattle.run.specs.Run.{printed, stands_after, started, calls_text, run_text, input_text}
use Rattle.run.specs.declared.Standing.{Standing}
use Rattle.run.specs.declared.Started.{Started}

-- the text of the calls that are left is the next call's, and then the others'
pub turn : (ws T : List ℕ) (count i : ℕ) (s : Standing) → i < count → T ≡ calls_text ws (count - i) (i + 1) s
    → T ≡ printed ws (i + 1) s ++ calls_text ws (count - (i + 1)) (i + 1 + 1) (stands_after ws s)
unfolding calls_text
turn ws T count i s h e = let q : count - i ≡ suc (count - (i + 1)) = omega arith in e ∙ rw q

-- a buffer whose first n bytes are P, where a text T begins with P
module _ (P R o line T : List ℕ) (n : ℕ) (is : line ≡ P ++ drop n o) (size : n ≡ length P) (left : T ≡ P ++ R) where
  first : take n line ≡ P
  first = ap (take n) is ∙ take_at P (drop n o) n (sym size)

  pub part : take n line ≡ take (length (take n line)) T
  part = rw (first, left, take_at P R (length P) refl)

  pub taken : length (take n line) ≡ n
  taken = ap length first ∙ sym size

  pub rest : drop n T ≡ R
  rest = ap (drop n) left ∙ drop_at P R n (sym size)

-- the same behind the first `from` bytes of a text: what is left of it where that part was handed over too
module _ (P R o line T : List ℕ) (from n r : ℕ) (is : line ≡ P ++ drop n o) (size : n ≡ length P) (left : drop from T ≡ P ++ R)
    (further : r ≡ from + length (take n line)) where
  pub behind : drop r T ≡ R
  behind =
      let e : r ≡ from + n = further ∙ ap (λ (k : ℕ). from + k) (taken P R o line (drop from T) n is size left) in
      ap (λ (k : ℕ). drop k T) e ∙ sym (drop-drop n from T) ∙ rest P R o line (drop from T) n is size left

pub none_left : (ws : List ℕ) (k i : ℕ) (s : Standing) → k ≡ 0 → calls_text ws k i s ≡ []
unfolding calls_text
none_left ws k i s e = rw e

pub next_is : (ws : List ℕ) (i : ℕ) (s t : Standing) → t ≡ stands_after ws s → s.next ≡ call_at ws i → t.next ≡ call_at ws (i + 1)
unfolding stands_after call_at
next_is ws i s t e h = rw (add-one, e, h)

-- ---- the line of call 0 is the text's first 15 bytes
module _ (refusal : ℕ) (R T : List ℕ) (left : T ≡ call_text 0 refusal 0 [] ++ R) where
  pub first_is : take 15 T ≡ call_text 0 refusal 0 []
  first_is = rw left (take_at (call_text 0 refusal 0 []) R 15 (length-call_text 0 refusal 0 []))

  pub behind_first : (from : ℕ) → from ≡ 15 → drop from T ≡ R
  behind_first from e = rw (e, left) (drop_at (call_text 0 refusal 0 []) R 15 (length-call_text 0 refusal 0 []))

-- ---- the opening's line, and what follows it
module _ (ws : List ℕ) (o : Started) (is : o ≡ started ws) where
  pub opens : run_text ws ≡ call_text 0 o.refusal 0 [] ++ cond (eqb o.refusal 0) (calls_text ws (call_count ws) 1 o.stands) []
  unfolding run_text
  opens = rw is

  pub opens_refused : (o.refusal ≡ 0 → ⊥) → run_text ws ≡ call_text 0 o.refusal 0 [] ++ []
  opens_refused h = opens ∙ rw (ne_eqb o.refusal 0 h)

  pub opens_accepted : o.refusal ≡ 0 → run_text ws ≡ call_text 0 o.refusal 0 [] ++ calls_text ws (call_count ws) 1 o.stands
  opens_accepted h = opens ∙ rw (eq-eqb o.refusal 0 h)

  pub at_first : (o.stands.next ≡ calls_at ws) × (o.stands.chance ≡ 0)
  unfolding started
  at_first = (ap (λ (x : Started). x.stands.next) is, ap (λ (x : Started). x.stands.chance) is)

-- ---- the input's text
module _ (bs : List ℕ) (refusal : ℕ) (is : refusal ≡ input_refusal bs) where
  pub input_refused : (refusal ≡ 0 → ⊥) → input_text bs ≡ call_text 0 refusal 0 [] ++ []
  unfolding input_text
  input_refused h = rw (sym is, ne_eqb refusal 0 h) (sym (append-nil (call_text 0 refusal 0 [])))

  pub input_accepted : refusal ≡ 0 → input_text bs ≡ run_text (input_words bs)
  unfolding input_text
  input_accepted h = rw (sym is, eq-eqb refusal 0 h)

-- no refusal's number is 0
pub refused : (r : Refusal) → number r ≡ 0 → ⊥
refused r h = grind (arith, h)
