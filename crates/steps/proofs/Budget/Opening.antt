-- What an accepted opening says: of the tables (at most 16 machines, no fraction above 1), of the
-- framework's fraction, and of the framework, which counts nothing yet. Assumes nothing.
use Prim.Native.Nat.{ℕ, zero, suc, ◌*◌, ◌≤◌, ◌<◌}
use Rattle.std.proofs.Common.{lt_irrefl, arith, sym, ap, ◌∙◌, subst, lit<, get_or-take, get_or-drop}
use Rattle.std.specs.Prelude.{Bool, true, false, cond, ◌&&◌, List, ◌≡◌, refl, T, get_or, drop, replicate, Float}
use Rattle.std.proofs.lemmas.Bool.{false≢true}
use Rattle.std.proofs.Math.ListN.{length-set, length-replicate}
use Rattle.std.specs.Float.{nan, inf, fin}
use Rattle.std.specs.Float.Ieee.{binary64, of_bits, fits, lt, le}
use Rattle.std.specs.Float.Ieee.Bits.{of_bits-fits}
use Rattle.std.specs.Float.Ieee.Fits.{and_r}
use Rattle.std.specs.Float.Ieee.Positive.{positive}
use Rattle.numbers.specs.Fraction.{in1074}
use Rattle.numbers.proofs.Fraction.Laws.{positive_units}
use Rattle.numbers.specs.Positive.{positive_is, limit_positive}
use Rattle.machine.specs.Source.{Source, Telling}
use Rattle.machine.specs.declared.source.Place.{Place}
use Rattle.machine.specs.Constants.{machine_max, machine_words, max_padding_frac}
use Rattle.machine.specs.State.{rows_of}
use Rattle.numbers.specs.Finite.{zero_f}
use Rattle.tables.specs.Framework.{is_fraction, fractions_refusal}
use Rattle.tables.proofs.Valid.Laws.{zero_valid}
use Rattle.tables.specs.Machine.{tables_refusal}
use Rattle.steps.specs.Events.{Tables, no_runtime, runtime_at, machine_word}
use Rattle.steps.specs.declared.Run.{Run}
use Rattle.steps.specs.Framework.{rows_in, open_run, open_refusal, opening}
use Rattle.steps.specs.Runs.{stored_all, OutcomeOk, ok_any, none_of, opening_ok}
use Rattle.steps.specs.Draws.{by_told}
use Rattle.steps.specs.Machines.{comes_in, opening_kept}
use Rattle.steps.specs.Budget.{empty}
use Rattle.steps.proofs.Budget.Invariant.{inv_open}
use Rattle.steps.proofs.Budget.Check.{Setup, checks}
use Rattle.steps.proofs.Budget.Machine.{Has, Told}
use Rattle.steps.proofs.Budget.Runs.{Frame}
use Rattle.steps.proofs.Budget.Batches.{Rest}

not_zero : (n : ℕ) → suc n ≡ 0 → ⊥
not_zero n e = omega arith

-- ---- the tables of an accepted opening
module _ (machines states ts : List ℕ) (ok : tables_refusal machines states ts ≡ 0) where
  pub at_most_16 : rows_in machines ≤ machine_max
  at_most_16 = (zero_valid machines states ts ok).whole.most

  -- a machine's fraction above 0 has units: it is not above 1
  pub machine_units : (i : ℕ) → i < rows_in machines
      → lt zero_f (of_bits binary64 (machine_word machines i max_padding_frac)) ≡ true
      → 0 < in1074 (of_bits binary64 (machine_word machines i max_padding_frac))
  unfolding of_bits rows_of
  machine_units i h above =
      positive_units (of_bits binary64 w) (of_bits-fits binary64 w)
      (limit_positive (of_bits binary64 w) above
      (ap (λ (v : ℕ). lt (of_bits binary64 0x3ff0_0000_0000_0000) (of_bits binary64 v)) (sym word)
      ∙ ((zero_valid machines states ts ok).each i h).padding.1))
    where
      w : ℕ
      w = machine_word machines i max_padding_frac

      word : get_or (rows_of machine_words machines i 1) max_padding_frac 0 ≡ w
      word =
          get_or-take (1 * machine_words) (drop (i * machine_words) machines) max_padding_frac 0 (lit< tt)
          ∙ get_or-drop (i * machine_words) machines max_padding_frac 0

-- ---- the framework's fraction
fraction_positive : (x : Float) → lt zero_f x ≡ true → T (le x (of_bits binary64 0x3ff0_0000_0000_0000))
    → T (positive x)
unfolding lt le of_bits
fraction_positive nan a b = absurd b
fraction_positive (inf true) a b = absurd (false≢true a)
fraction_positive (inf false) a b = absurd b
fraction_positive (fin s m e) a b =
    subst T (sym (positive_is (fin s m e) ∙ ap (λ (c : Bool). c && true) a)) tt

pub framework_units : (F blocking : Float) → T (fits binary64 F) → fractions_refusal F blocking ≡ 0
    → lt zero_f F ≡ true → 0 < in1074 F
unfolding fractions_refusal is_fraction
framework_units F blocking k ok above =
    positive_units F k
    (fraction_positive F above
    (and_r (le zero_f F) (le F (of_bits binary64 0x3ff0_0000_0000_0000))
    (by (is_fraction F) (is_fraction blocking) ok)))
  where
    by : (a b : Bool) → cond {A = ℕ} a (cond b 0 2) 1 ≡ 0 → T a
    by true b h = tt
    by false b h = absurd (not_zero 0 h)

-- ---- the framework of an accepted opening
none_sent : (m i : ℕ) → Has 0 0 (get_or (replicate m no_runtime) i no_runtime)
none_sent zero i = (refl, refl)
none_sent (suc m) zero = (refl, refl)
none_sent (suc m) (suc i) = none_sent m i

-- the checks passed
pub passed : (tables : Tables) (F blocking : Float) (time : ℕ) (source : Source Place)
    → (opening tables F blocking time source).refusal ≡ 0
    → (fractions_refusal F blocking ≡ 0)
    × (tables_refusal tables.machines tables.states tables.transitions ≡ 0)
passed tables F blocking time source ok =
    none_of (fractions_refusal F blocking)
    (tables_refusal tables.machines tables.states tables.transitions)
    (opening_ok (λ n. Unit) (λ x. Unit) (λ o. o.refusal ≡ 0 → open_refusal tables F blocking ≡ 0)
    tables F blocking time source (λ e. ok_any (open_run tables F blocking time source))
    (λ e h. absurd (e h)) (λ e n r h. e) (λ e x q h. e) ok)

-- and the run that draws the limits went to its end
module _ (S : Setup) (blocking : Float) (time : ℕ) (source : Source Place) (tells : Telling source) where
  open S use {tables, F}

  Counts : Run → Type 0
  Counts x = Frame S empty x.framework × ((i : ℕ) → Has 0 0 (runtime_at x.framework i))

  run_ok : OutcomeOk Told Counts (open_run tables F blocking time source)
  unfolding Counts
  run_ok =
      opening_kept Told Counts tables source (by_told source tells) comes F blocking time (
        record {
          machines = refl;
          frac = refl;
          normal = refl;
          padding = refl;
          room = length-replicate machine_max no_runtime;
        },
        none_sent machine_max,
      )
    where
      comes : (i limit : ℕ) (at : Place) (x : Run) → Counts x → OutcomeOk Told Counts (comes_in tables i limit at x)
      comes i limit at x c = (
        record {
          machines = c.0.machines;
          frac = c.0.frac;
          normal = c.0.normal;
          padding = c.0.padding;
          room = length-set x.framework.runtime i _ ∙ c.0.room;
        },
        stored_all (Has 0 0) x.framework.runtime i _ no_runtime (refl, refl) c.1,
      )

  pub rests : (opening tables F blocking time source).refusal ≡ 0
      → Rest S empty (opening tables F blocking time source).framework
  unfolding Counts
  rests =
      opening_ok Told Counts (λ o. o.refusal ≡ 0 → Rest S empty o.framework) tables F blocking time source
      (λ e. run_ok) (λ e z. absurd (e z))
      (λ e n w z. absurd (lt_irrefl 0 (subst (λ (j : ℕ). 0 < j) z w)))
      (λ e x w z. record { inv = inv_open (checks S); frame = w.0; at = λ i h. w.1 i })
