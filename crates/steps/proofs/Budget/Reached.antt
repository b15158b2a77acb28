-- The premises are met, also by a list with batches on tapes and on words and refused ones in it, and the budgets
-- are reached. Three lists over one machine under a fraction of a quarter, for itself and for the framework: with allowance 0 it has
-- sent 2 of 2 packets after the first, which is A + 2, and 3 of 7 after the second; with allowance 2 it has
-- sent 3 of 3 after the third. So the claim would be false with P - 1 for P - 2, with A for A + 2, and with
-- M for 4 × M. Assumes nothing.
use Rattle.std.specs.Prelude.{ℕ, suc, ◌+◌, ◌*◌, ◌-◌, ◌^◌, ◌≤◌, ◌<◌, not, List, [], ◌∷◌, ◌++◌, ◌⊎◌, ◌≡◌, refl, T, ltb, eqb, replicate}
use Rattle.std.proofs.Common.{lt_irrefl, lt_of_lt_of_le, inl, inr, subst, ltb→lt, T_not}
use Rattle.std.proofs.Math.Dec.{eqb_refl}
use Rattle.std.specs.Float.Ieee.{of_bits, of_int, add, sub, div, lt, le, eq}
use Rattle.numbers.specs.Finite.{zero_f, is_finite}
use Rattle.numbers.specs.Fraction.{reached, in1074}
use Rattle.numbers.specs.Round.{round_away}
use Rattle.machine.specs.Constants.{action, timeout, send_padding}
use Rattle.machine.specs.Event.{event_of, normal_sent, padding_sent, tunnel_sent}
use Rattle.machine.specs.Source.{chance_draw}
use Rattle.machine.specs.State.{rows_of, walk, sample_state}
use Rattle.dists.specs.Dist.{dist_type, dist_at, valid_uniform, validate, uniform_draw, dist_sample, or_zero, capped, adjusted, sample}
use Rattle.samples.specs.Action.{sample_timeout, sample_duration, sample_limit, has_limit}
use Rattle.rows.specs.First.{or_else, first_refusal}
use Rattle.rows.specs.Row.{pair_refusal, row_refusal, sum_refusal, transition_refusal, is_target, improbable, seen_in, sum_from}
use Rattle.tables.specs.State.{events_refusal, codes_unknown, action_unknown, common_unknown, needed_unknown, counter_unknown, dists_invalid, action_invalid, counter_invalid, invalid, state_refusal}
use Rattle.tables.specs.Machine.{beyond_fraction, each_state, states_refusal, machine_refusal, whole_tables, tables_refusal}
use Rattle.outside.specs.Outside.{state_outside, states_outside, machines_outside, draws_outside}
use Rattle.tables.specs.Framework.{is_fraction, fractions_refusal}
use Rattle.steps.specs.Limits.{below_fraction, below_limit_padding, below_action_limits}
use Rattle.steps.specs.Transition.{enter, schedule_action, update_one, tally_a, tally_b, update_counters, update_counter, finish, transition_by, decrement_limit}
use Rattle.steps.specs.Events.{Tables, each, counts_after, blocked_for, totals_after, turn, machine_turn, process_event, signals}
use Rattle.steps.specs.Framework.{start_limit, open_machine, opening, states_fit, ended_in, fits_tables, kinds_fit, events_fit, batch_refusal, trigger_events, action_rows, batch}
use Rattle.steps.specs.Words.{Lent, on_tapes, on_words, opening_on, batch_on}
use Rattle.steps.specs.Example.{state_with, pair_count, quarter32, one32, quarter64, f32, f64}
use Rattle.steps.specs.Budget.{Call, refusal_of, framework_of, Ledger, empty, ledger, Lists, allowance, sum}
use Rattle.steps.specs.declared.Framework.{Framework}
use Rattle.steps.specs.declared.Opened.{Opened}

-- one state, which on TunnelSent schedules SendPadding: one transition, from row 0 on
abbrev on_tunnel_sent : ℕ × ℕ
on_tunnel_sent = (pair_count tunnel_sent, 1)

-- with a timeout of this kind: 1 is Uniform, 2 drawn outside
abbrev tables_of : ℕ → ℕ → Tables
tables_of allowed kind = record {
  machines = allowed ∷ quarter64 ∷ 0 ∷ 0 ∷ 0 ∷ 1 ∷ [];
  states = state_with (on_tunnel_sent ∷ (action, send_padding) ∷ (timeout, kind) ∷ []);
  transitions = 0 ∷ one32 ∷ [];
}

abbrev tables : ℕ → Tables
tables allowed = tables_of allowed 1

abbrev opens : ℕ → Opened
opens allowed = opening_on (tables allowed) (f64 quarter64) zero_f 0 (on_tapes [] [])

-- the same on words
abbrev opens_on_words : ℕ → Opened
opens_on_words allowed = opening_on (tables allowed) (f64 quarter64) zero_f 0 (on_words [])

-- ---- calls with these events, and with a chance draw or without
abbrev call : Tables → List ℕ → Lent → Call
call tables events lent = record {
  tables = tables;
  time = 0;
  events = events;
  lent = lent;
  out = replicate 6 0;
}

abbrev drawing : ℕ → List ℕ → Call
drawing allowed events = call (tables allowed) events (on_tapes (f32 quarter32 ∷ []) [])

abbrev drawless : ℕ → List ℕ → Call
drawless allowed events = call (tables allowed) events (on_tapes [] [])

-- from one word, with a timeout of this kind
abbrev from_word : ℕ → List ℕ → Call
from_word kind events = call (tables_of 0 kind) events (on_words (0 ∷ []))

abbrev tunnel : List ℕ
tunnel = tunnel_sent ∷ 0 ∷ []

abbrev normal : List ℕ
normal = normal_sent ∷ 0 ∷ []

abbrev padding : List ℕ
padding = padding_sent ∷ 0 ∷ []

-- a second SendPadding before the first is spent, and both are sent
abbrev twice : List Call
twice = drawing 0 tunnel ∷ drawing 0 (tunnel ++ padding) ∷ drawless 0 padding ∷ []

-- the same after 1 of 5, on tapes and on words, with three calls that are refused: for want of a draw, for
-- other tables, and on words for a distribution drawn outside
abbrev refused_too : List Call
refused_too =
    drawing 0 tunnel ∷ drawless 0 (tunnel ++ padding ++ padding)
    ∷ from_word 1 (padding ++ normal ++ normal ++ normal ++ normal ++ tunnel)
    ∷ call (record { machines = []; states = []; transitions = [] }) (padding ++ padding) (on_tapes [] [])
    ∷ from_word 2 (padding ++ padding)
    ∷ drawing 0 (tunnel ++ padding) ∷ drawless 0 padding ∷ []

-- under an allowance of 2
abbrev allowed_two : List Call
allowed_two =
    drawing 2 tunnel ∷ drawing 2 (tunnel ++ padding) ∷ drawing 2 (tunnel ++ padding)
    ∷ drawless 2 padding ∷ []

-- ---- where they lead
abbrev refusals : Framework → List Call → List ℕ
refusals x [] = []
refusals x (c ∷ cs) = refusal_of x c ∷ refusals (framework_of x c) cs

abbrev after : ℕ → List Call → Ledger
after allowed cs = ledger empty (opens allowed).framework cs

-- the premises hold, and the ledger has p padding and n normal packets
abbrev Leads : ℕ → List Call → List ℕ → ℕ → ℕ → Type 0
Leads allowed cs numbers p n =
    ((opens allowed).refusal ≡ 0) × Lists (tables allowed) empty (opens allowed).framework cs
    × (refusals (opens allowed).framework cs ≡ numbers) × ((after allowed cs).own 0 ≡ p)
    × ((after allowed cs).padding ≡ p) × ((after allowed cs).normal ≡ n)

unlike : {A : Type 0} (m n : ℕ) → T (not (eqb m n)) → m ≡ n → A
unlike m n t e = absurd (T_not (eqb m n) t (subst (λ (k : ℕ). T (eqb m k)) e (eqb_refl m)))

-- no PaddingSent
free : {A : Type 0} → tunnel_sent ≡ padding_sent → A
free = unlike tunnel_sent padding_sent tt

more : {A : Type 0} → normal_sent ≡ padding_sent → A
more = unlike normal_sent padding_sent tt

pub lead :
    Leads 0 twice (0 ∷ 0 ∷ 0 ∷ []) 2 0 × Leads 0 refused_too (0 ∷ 16 ∷ 0 ∷ 18 ∷ 24 ∷ 0 ∷ 0 ∷ []) 3 4
    × Leads 2 allowed_two (0 ∷ 0 ∷ 0 ∷ 0 ∷ []) 3 0 × (opens_on_words 0 ≡ opens 0) × (opens_on_words 2 ≡ opens 2)
unfolding
    Lists ledger opening_on batch_on draws_outside machines_outside states_outside state_outside
    opening fractions_refusal is_fraction open_machine start_limit sample_limit has_limit batch
    batch_refusal fits_tables states_fit ended_in events_fit kinds_fit tables_refusal or_else first_refusal whole_tables
    machine_refusal beyond_fraction states_refusal each_state state_refusal events_refusal pair_refusal
    row_refusal sum_refusal transition_refusal is_target improbable seen_in sum_from codes_unknown
    action_unknown common_unknown needed_unknown counter_unknown dists_invalid action_invalid counter_invalid
    invalid valid_uniform validate dist_at dist_type is_finite rows_of each of_bits of_int lt le add sub div
    reached trigger_events process_event totals_after blocked_for machine_turn turn counts_after event_of
    transition_by chance_draw sample_state walk enter update_counter update_counters tally_a tally_b update_one below_action_limits
    below_limit_padding below_fraction finish schedule_action sample_timeout sample_duration sample
    dist_sample uniform_draw eq adjusted capped or_zero round_away signals action_rows decrement_limit
lead =
    let spent : padding_sent ≡ padding_sent → Unit {0} = λ e. tt in (
      (
        refl,
        (
          (λ e. (refl, (free, tt))),
          ((λ e. (refl, (free, (spent, tt)))), ((λ e. (refl, (spent, tt))), tt)),
        ),
        refl,
        refl,
        refl,
        refl,
      ),
      (
        refl,
        (
          (λ e. (refl, (free, tt))),
          (
            unlike 16 0 tt,
            (
              (λ e. (refl, (spent, (more, (more, (more, (more, (free, tt)))))))),
              (
                unlike 18 0 tt,
                (unlike 24 0 tt, ((λ e. (refl, (free, (spent, tt)))), ((λ e. (refl, (spent, tt))), tt))),
              ),
            ),
          ),
        ),
        refl,
        refl,
        refl,
        refl,
      ),
      (
        refl,
        (
          (λ e. (refl, (free, tt))),
          (
            (λ e. (refl, (free, (spent, tt)))),
            ((λ e. (refl, (free, (spent, tt)))), ((λ e. (refl, (spent, tt))), tt)),
          ),
        ),
        refl,
        refl,
        refl,
        refl,
      ),
      refl,
      refl,
    )

-- ---- so the claim would be false with less
no_le : (a b : ℕ) → T (ltb b a) → a ≤ b → ⊥
no_le a b t h = lt_irrefl b (lt_of_lt_of_le (ltb→lt b a t) h)

-- The machine's claim at p padding and n normal packets, with x for A + 2 and y for 2; the framework's with
-- z for what it allows beyond its fraction.
abbrev OfMachine : (x y p n : ℕ) → Type 0
OfMachine x y p n = (p ≤ x) ⊎ ((p - y) * 2 ^ 1074 < in1074 (f64 quarter64) * (p + n))

abbrev OfFramework : (z p n : ℕ) → Type 0
OfFramework z p n = p * 2 ^ 1074 ≤ in1074 (f64 quarter64) * (p + n) + z * 2 ^ 1074

-- false at these numbers, so false of what has them
fails : (P : ℕ → ℕ → Type 0) (p n p' n' : ℕ) → p ≡ p' → n ≡ n' → (P p' n' → ⊥) → P p n → ⊥
fails P p n p' n' e f h k = h (subst (λ (m : ℕ). P p' m) f (subst (λ (m : ℕ). P m n) e k))

-- with A + 1 for A + 2 and P - 1 for P - 2: at 2 of 2 under allowance 0
pub not_one : OfMachine (allowance (tables 0) 0 + 1) 1 ((after 0 twice).own 0) (after 0 twice).normal → ⊥
unfolding in1074 of_bits
not_one = fails (OfMachine 1 1) ((after 0 twice).own 0) (after 0 twice).normal 2 0 lead.0.3 lead.0.5 by
  where
    by : OfMachine 1 1 2 0 → ⊥
    by (inl k) = no_le 2 1 tt k
    by (inr k) = no_le (suc (1 * 2 ^ 1074)) (in1074 (f64 quarter64) * 2) tt k

-- with P - 1 for P - 2: at 3 of 7 under allowance 0
pub not_less_one : OfMachine (allowance (tables 0) 0 + 2) 1 ((after 0 refused_too).own 0) (after 0 refused_too).normal → ⊥
unfolding in1074 of_bits
not_less_one = fails (OfMachine 2 1) ((after 0 refused_too).own 0) (after 0 refused_too).normal 3 4 lead.1.3 lead.1.5 by
  where
    by : OfMachine 2 1 3 4 → ⊥
    by (inl k) = no_le 3 2 tt k
    by (inr k) = no_le (suc (2 * 2 ^ 1074)) (in1074 (f64 quarter64) * 7) tt k

-- with A for A + 2: at 3 of 3 under allowance 2
pub not_allowance : OfMachine (allowance (tables 2) 0) 2 ((after 2 allowed_two).own 0) (after 2 allowed_two).normal → ⊥
unfolding in1074 of_bits
not_allowance = fails (OfMachine 2 2) ((after 2 allowed_two).own 0) (after 2 allowed_two).normal 3 0 lead.2.3 lead.2.5 by
  where
    by : OfMachine 2 2 3 0 → ⊥
    by (inl k) = no_le 3 2 tt k
    by (inr k) = no_le (suc (1 * 2 ^ 1074)) (in1074 (f64 quarter64) * 3) tt k

-- with M for 4 × M: at 3 of 7
pub not_machines : OfFramework (sum 1 (allowance (tables 0)) + 1) (after 0 refused_too).padding (after 0 refused_too).normal → ⊥
unfolding in1074 of_bits
not_machines =
    fails (OfFramework 1) (after 0 refused_too).padding (after 0 refused_too).normal 3 4 lead.1.4 lead.1.5
    (no_le (3 * 2 ^ 1074) (in1074 (f64 quarter64) * 7 + 1 * 2 ^ 1074) tt)
