-- The kinds of checked events.
use Prim.Native.Nat.{ℕ, ◌≤◌, ◌<◌}
use mathlib.Core.Path.{◌≡◌, refl}
use mathlib.Core.Bool.{true, false}
use mathlib.Core.List.{List}
use mathlib.Core.Logic.{⊎_elim}
use native.Mathlib.Omega.{arith}
use lib.Dec.{leb, ltb}
use borrow.Author.Tests.{leb-true}
use Rattle.machine.specs.Event.{event_of, timer_end_kind}
use Rattle.steps.specs.Events.{kind_at}
use Rattle.steps.specs.Framework.{kinds_fit}
use Rattle.events.proofs.All.{all_at, bool_cases}

pub kind_fits : (es : List ℕ) (i n : ℕ) → i < n → kinds_fit es n ≡ true → kind_at es i ≤ timer_end_kind
unfolding kinds_fit
kind_fits es i n h e = leb-true _ _ (all_at (kinds_fit es) (λ (k : ℕ). leb (kind_at es k) timer_end_kind) (λ k. refl) i n h e)

-- the `Event` of a known kind
pub event_small : (kind : ℕ) → kind ≤ timer_end_kind → event_of kind < 13
unfolding event_of
event_small kind h =
    ⊎_elim
    (λ (e : ltb kind 8 ≡ true). rw e (omega arith))
    (λ (e : ltb kind 8 ≡ false). rw e (omega arith))
    (bool_cases (ltb kind 8))
