-- What a passed check of below_limit_padding says of exact numbers: by monotone rounding the test of an
-- f64 quotient is an inequality of whole numbers. So the checks are what the invariant asks of them.
-- Assumes nothing.
use Rattle.std.specs.Prelude.{ℕ, ◌+◌, ◌*◌, ◌^◌, ◌≤◌, ◌<◌, Bool, ◌⊎◌, ◌≡◌, T, Float}
use Rattle.std.proofs.Common.{le_trans, le_of_lt, arith, inl, inr, sym, ap, ◌∙◌, subst}
use Rattle.std.proofs.Math.Decide.{ℕ_discrete, dec_lt}
use Rattle.std.proofs.Math.Bool.{true, false, cond}
use Rattle.std.proofs.lemmas.Bool.{false≢true}
use Rattle.std.proofs.Math.Path.{refl}
use Rattle.std.specs.Float.{binary64}
use Rattle.std.specs.Float.Ieee.{of_bits, lt, fits}
use Rattle.std.specs.Float.Ieee.Bits.{of_bits-fits}
use Rattle.std.specs.Float.Ieee.Positive.{positive}
use borrow.Author.Tests.{ne_eqb, le-ltb}
use Rattle.numbers.specs.Fraction.{reached, in1074}
use Rattle.numbers.proofs.Fraction.Laws.{units_positive, passed_is_below}
use Rattle.numbers.specs.Positive.{positive_above}
use Rattle.numbers.specs.Saturating.{saturating_add}
use Rattle.machine.specs.Constants.{machine_max, max_padding_frac}
use Rattle.numbers.specs.Finite.{zero_f}
use Rattle.steps.specs.Limits.{limit_left, machine_padding_frac, below_fraction, below_limit_padding}
use Rattle.steps.specs.Events.{Tables, machine_word}
use Rattle.steps.specs.Framework.{rows_in}
use Rattle.steps.specs.Budget.{allowance, fraction}
use Rattle.steps.proofs.Budget.Invariant.{Checks}
use Rattle.steps.specs.declared.MachineRuntime.{MachineRuntime}
use Rattle.steps.specs.declared.Context.{Context}

-- ---- One fraction, at p padding beside n normal packets. Totals of at most 2 ^ 53 packets do not
-- saturate.
uncapped : (p n : ℕ) → p + n ≤ 2 ^ 53 → saturating_add n p ≡ p + n
uncapped p n h = omega arith

module _ (f : Float) (p n : ℕ) (small : p + n ≤ 2 ^ 53) (some : p + n ≡ 0 → ⊥) where
  -- reaching the fraction stops
  reaching-stops : (rest : Bool) → lt zero_f f ≡ true → reached p (p + n) f ≡ true
      → below_fraction f p n rest ≡ false
  unfolding below_fraction
  reaching-stops rest on e =
      rw (on, uncapped p n small, ne_eqb (p + n) 0 some) (ap (λ (b : Bool). cond b false rest) e)

  -- and so does what follows it
  rest-stops : (rest : Bool) → rest ≡ false → below_fraction f p n rest ≡ false
  unfolding below_fraction
  rest-stops rest e =
      rw (e, uncapped p n small, ne_eqb (p + n) 0 some) (go (lt zero_f f) (reached p (p + n) f))
    where
      go : (a b : Bool) → cond a (cond b false false) false ≡ false
      go true true = refl
      go true false = refl
      go false b = refl

  -- where a fraction above 0 does not stop, the quotient is below it exactly
  below-exactly : T (fits binary64 f) → 0 < in1074 f
      → (((rest : Bool) → below_fraction f p n rest ≡ false) → ⊥)
      → p * 2 ^ 1074 < in1074 f * (p + n)
  below-exactly k h passes = go (reached p (p + n) f) refl
    where
      pos : T (positive f)
      pos = units_positive f h

      above : (a : ℕ) → (a ≡ 0 → ⊥) → 0 < a
      above a z = omega arith

      more : (a b : ℕ) → a ≤ a + b
      more a b = omega arith

      go : (b : Bool) → reached p (p + n) f ≡ b → p * 2 ^ 1074 < in1074 f * (p + n)
      go true e =
          absurd (passes (λ rest. reaching-stops rest (unfold of_bits in positive_above f pos) e))
      go false e =
          passed_is_below f p (p + n) k pos (le_trans (more p n) small) small (above (p + n) some) e

-- ---- below_limit_padding, beyond the allowance and with some packets sent: the machine's fraction and
-- the framework's both stop
abbrev total : MachineRuntime → ℕ
total r = r.counts.padding_sent + r.counts.normal_sent

module _ (c : Context) (r : MachineRuntime)
    (over : r.counts.padding_sent < c.allowed_padding_packets → ⊥) where
  own-stops : ((rest : Bool) → below_fraction (machine_padding_frac c) r.counts.padding_sent r.counts.normal_sent rest ≡ false)
      → below_limit_padding c r ≡ false
  unfolding below_limit_padding
  own-stops e = rw (le-ltb r.counts.padding_sent c.allowed_padding_packets (omega arith), e _)

  all-stops : total r ≤ 2 ^ 53 → (total r ≡ 0 → ⊥)
      → ((rest : Bool) → below_fraction c.max_padding_frac c.padding_sent_packets
      c.normal_sent_packets rest ≡ false)
      → below_limit_padding c r ≡ false
  unfolding below_limit_padding
  all-stops small some e =
      rw (le-ltb r.counts.padding_sent c.allowed_padding_packets (omega arith))
      (rest-stops (machine_padding_frac c) r.counts.padding_sent r.counts.normal_sent small some _
      (e (limit_left r)))

-- ---- the numbers that a check reads, and what a passed check says of them
pub record Numbers : Type 0 where
  pub allowed : ℕ
  pub f : Float
  pub F : Float
  pub own : ℕ
  pub heard : ℕ
  pub padding : ℕ
  pub normal : ℕ

abbrev pub numbers_of : Context → MachineRuntime → Numbers
numbers_of c r = record {
  allowed = c.allowed_padding_packets;
  f = machine_padding_frac c;
  F = c.max_padding_frac;
  own = r.counts.padding_sent;
  heard = r.counts.normal_sent;
  padding = c.padding_sent_packets;
  normal = c.normal_sent_packets;
}

abbrev pub OwnLaw : Numbers → Type 0
OwnLaw x =
    T (fits binary64 x.f) → 0 < in1074 x.f → x.own + x.heard ≤ 2 ^ 53
    → (x.own < x.allowed) ⊎ ((x.own + x.heard ≡ 0)
    ⊎ (x.own * 2 ^ 1074 < in1074 x.f * (x.own + x.heard)))

abbrev pub AllLaw : Numbers → Type 0
AllLaw x =
    T (fits binary64 x.F) → 0 < in1074 x.F → x.own ≤ x.padding → x.heard ≤ x.normal
    → x.padding + x.normal ≤ 2 ^ 53
    → (x.own < x.allowed) ⊎ ((x.own + x.heard ≡ 0)
    ⊎ (x.padding * 2 ^ 1074 ≤ in1074 x.F * (x.padding + x.normal)))

module _ (c : Context) (r : MachineRuntime) (passed : below_limit_padding c r ≡ true) where
  stops : below_limit_padding c r ≡ false → ⊥
  stops e = false≢true (sym e ∙ passed)

  pub own_passed : OwnLaw (numbers_of c r)
  own_passed k h small = elim (dec_lt r.counts.padding_sent c.allowed_padding_packets) [
    | yes a ↦ inl a
    | no a ↦ inr (elim (ℕ_discrete (total r) 0) [
      | yes z ↦ inl z
      | no z ↦ inr (
          below-exactly (machine_padding_frac c) r.counts.padding_sent r.counts.normal_sent small z k h
          (λ e. stops (own-stops c r a e))
          )
    ])
  ]

  pub all_passed : AllLaw (numbers_of c r)
  all_passed k h less later small = elim (dec_lt r.counts.padding_sent c.allowed_padding_packets) [
    | yes a ↦ inl a
    | no a ↦ inr (elim (ℕ_discrete (total r) 0) [
      | yes z ↦ inl z
      | no z ↦ inr (le_of_lt (
          below-exactly c.max_padding_frac c.padding_sent_packets c.normal_sent_packets
          small (λ e. z (omega arith)) k h
          (λ e. stops (all-stops c r a (omega arith) z e))
          ))
    ])
  ]

-- a check of below_limit_padding that passed at these numbers
pub record Passed (x : Numbers) : Type 0 where
  pub context : Context
  pub runtime : MachineRuntime
  pub reads : numbers_of context runtime ≡ x
  pub passed : below_limit_padding context runtime ≡ true

-- ---- what an accepted opening fixes: its tables, of at most 16 machines, and the framework's
-- fraction, an f64
pub record Setup : Type 0 where
  pub tables : Tables
  pub F : Float
  pub f64 : T (fits binary64 F)
  pub few : rows_in tables.machines ≤ machine_max

abbrev pub machines_of : Setup → ℕ
machines_of S = rows_in S.tables.machines

pub fewer : (p n s N : ℕ) → p ≤ s → n ≤ N → s + N ≤ 2 ^ 53 → p + n ≤ 2 ^ 53
fewer p n s N l k h = omega arith

-- what machine i's check reads at p padding and n normal packets of its own, s padding and N normal
-- packets of all
abbrev pub numbers_at : Setup → ℕ → ℕ → ℕ → ℕ → ℕ → Numbers
numbers_at S i p n s N = record {
  allowed = allowance S.tables i;
  f = fraction S.tables i;
  F = S.F;
  own = p;
  heard = n;
  padding = s;
  normal = N;
}

abbrev pub checks : Setup → Checks
checks S = record {
  U = 2 ^ 1074;
  cap = 2 ^ 53;
  M = machines_of S;
  G = in1074 S.F;
  A = allowance S.tables;
  g = λ i. in1074 (fraction S.tables i);
  Pass = λ i p n s N. Passed (numbers_at S i p n s N);
  own_law = λ i p n s N m h l k small x.
      subst OwnLaw x.reads (own_passed x.context x.runtime x.passed)
      (of_bits-fits binary64 (machine_word S.tables.machines i max_padding_frac)) h
      (fewer p n s N l k small);
  all_law = λ i p n s N m h l k small x.
      subst AllLaw x.reads (all_passed x.context x.runtime x.passed) S.f64 h l k small;
}
