-- `due::kinds_known` meets its contract: its chunks are the rows.
use Prim.Native.Nat.{ℕ, suc, ◌+◌, ◌/◌, ◌<◌}
use mathlib.Core.Path.{◌≡◌, refl, ap, ◌∙◌}
use mathlib.Core.List.{List, [], ◌∷◌, ◌++◌}
use native.Mathlib.Omega.{arith}
use lib.ListN.{length, length-append}
use lib.Seq.{take_at, drop_at}
use borrow.Author.Rules.{rules}
use borrow.Author.Tests.{tests}
use Rattle.std.specs.List.{list_all}
use Rattle.std.specs.Slice.Iter.{chunks_exact_rest, chunks_exact_size, chunks_exact_steps}
use Rattle.std.proofs.lemmas.Iterator.Search.{all_from_yields_List}
use Rattle.std.proofs.lemmas.Iterator.Splits.{YieldsList-from_shown_while}
use Rattle.machine.specs.Constants.{row_words}
use Rattle.due.specs.Due.{rows_of, all_rows, known_kind, kinds_known}
use Rattle.due.proofs.kinds_known.Goals as goal

no_rows_left : (words : List ℕ) → length words < row_words → length (all_rows words) ≡ 0
unfolding rows_of
no_rows_left words h = let e : length words / row_words ≡ 0 = omega arith in rw e

row_left : (words row rest : List ℕ) → words ≡ row ++ rest → length row ≡ row_words → all_rows words ≡ row ∷ all_rows rest
unfolding rows_of
row_left words row rest e l =
    let n : length words ≡ row_words + length rest = omega (arith, ap length e, length-append row rest) in
    let k : length words / row_words ≡ suc (length rest / row_words) = omega arith in
    rw (k, e, take_at row rest row_words l, drop_at row rest row_words l)

all_known : (rows : List (List ℕ)) → list_all known_kind rows ≡ kinds_known rows
unfolding kinds_known
all_known [] = refl
all_known (row ∷ rows) = rw (all_known rows)

pub returns : goal.returns
returns c =
    all_from_yields_List known_kind _ _ _ c.all.ensures.ran
    (YieldsList-from_shown_while chunks_exact_steps (λ x. x.now) (λ s. all_rows (chunks_exact_rest s)) (λ s. chunks_exact_size s ≡ row_words)
    (λ s t p h. no_rows_left (chunks_exact_rest s) (omega (arith, p, h)))
    (λ s x t p h. (h.0 ∙ p, row_left (chunks_exact_rest s) x.now (chunks_exact_rest t) h.1.0 (h.1.1 ∙ p)))
    c.chunks_exact.result c.chunks_exact.ensures.size)
    (λ x b q k. search (rules, tests))
    ∙ all_known (all_rows (chunks_exact_rest c.chunks_exact.result)) ∙ ap (λ (words : List ℕ). kinds_known (all_rows words)) c.chunks_exact.ensures.rest
