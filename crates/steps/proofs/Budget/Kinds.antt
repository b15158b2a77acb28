-- A call on what is lent, two tapes or words, is the call at its source, or it is refused as 24. So an accepted one is the call at its
-- source, and a refused batch returns the framework as it went in. Assumes nothing.
use Rattle.std.specs.Prelude.{ℕ, List, ◌≡◌, refl, Float}
use Rattle.std.proofs.Common.{arith}
use Rattle.machine.specs.Words.{words}
use Rattle.tables.specs.Machine.{tables_refusal}
use Rattle.steps.specs.Events.{Tables, stop}
use Rattle.steps.specs.Framework.{open_refusal, opened_by, opening, Batch, refused, batch}
use Rattle.steps.specs.Words.{Lent, on_tapes, on_words, source_of, outside_refused, opening_on, batch_on}
use Rattle.steps.specs.Runs.{either}
use Rattle.steps.proofs.Budget.Batches.{refused_law}
use Rattle.steps.specs.declared.Framework.{Framework}
use Rattle.steps.specs.declared.Opened.{Opened}

-- ---- an opening: what holds of both holds of it
pub opening_on_lem : (P : Opened → Type 0) (tables : Tables) (padding blocking : Float) (time : ℕ) (lent : Lent)
    → P (opened_by (stop 24)) → P (opening tables padding blocking time (source_of lent)) → P (opening_on tables padding blocking time lent)
unfolding opening_on
opening_on_lem P tables padding blocking time (on_tapes chances values) h k = k
opening_on_lem P tables padding blocking time (on_words ws) h k =
    either P (outside_refused (open_refusal tables padding blocking) tables) (opened_by (stop 24))
    (opening tables padding blocking time (words ws)) h k

pub accepted_opening : (P : Opened → Type 0) (tables : Tables) (padding blocking : Float) (time : ℕ) (lent : Lent)
    → ((opening tables padding blocking time (source_of lent)).refusal ≡ 0 → P (opening tables padding blocking time (source_of lent)))
    → (opening_on tables padding blocking time lent).refusal ≡ 0 → P (opening_on tables padding blocking time lent)
accepted_opening P tables padding blocking time lent =
    opening_on_lem (λ o. o.refusal ≡ 0 → P o) tables padding blocking time lent (λ e. absurd (omega (arith, e)))

-- ---- a batch: the same
pub batch_on_lem : (P : Batch → Type 0) (fw : Framework) (tables : Tables) (time : ℕ) (es : List ℕ) (lent : Lent) (out : List ℕ)
    → P (refused fw out 24) → P (batch fw tables time es (source_of lent) out) → P (batch_on fw tables time es lent out)
unfolding batch_on
batch_on_lem P fw tables time es (on_tapes chances values) out h k = k
batch_on_lem P fw tables time es (on_words ws) out h k =
    either P (outside_refused (tables_refusal tables.machines tables.states tables.transitions) tables) (refused fw out 24)
    (batch fw tables time es (words ws) out) h k

pub accepted_batch : (P : Batch → Type 0) (fw : Framework) (tables : Tables) (time : ℕ) (es : List ℕ) (lent : Lent) (out : List ℕ)
    → ((batch fw tables time es (source_of lent) out).answer.refusal ≡ 0 → P (batch fw tables time es (source_of lent) out))
    → (batch_on fw tables time es lent out).answer.refusal ≡ 0 → P (batch_on fw tables time es lent out)
accepted_batch P fw tables time es lent out =
    batch_on_lem (λ b. b.answer.refusal ≡ 0 → P b) fw tables time es lent out (λ e. absurd (omega (arith, e)))

pub refused_batch : (fw : Framework) (tables : Tables) (time : ℕ) (es : List ℕ) (lent : Lent) (out : List ℕ)
    → ((batch_on fw tables time es lent out).answer.refusal ≡ 0 → ⊥) → (batch_on fw tables time es lent out).answer.framework ≡ fw
refused_batch fw tables time es lent out =
    batch_on_lem (λ b. (b.answer.refusal ≡ 0 → ⊥) → b.answer.framework ≡ fw) fw tables time es lent out (λ h. refl)
    (refused_law fw tables time es (source_of lent) out)
