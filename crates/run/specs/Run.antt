-- The printed text of a run (document 01, "The printed run"): the opening's line, and then what each call prints, in order.
use Rattle.std.specs.Prelude.{ℕ, zero, suc, ◌+◌, ◌*◌, min, cond, List, [], ◌++◌, eqb, Float, length, drop, get_or, replicate}
use Rattle.machine.specs.Constants.{machine_max, row_words}
use Rattle.text.specs.Printed.{call_text}
use Rattle.text.specs.Words.{chances, values, value_of}
use Rattle.stream.specs.Stream.{padding_frac, blocking_frac, opening_time, call_count, calls_at, machine_table, state_table, transition_table, chance_words, value_words, events_of, next_call, input_refusal, input_words}
use Rattle.machine.specs.Source.{tapes}
use Rattle.steps.specs.Events.{Tables}
use Rattle.steps.specs.Framework.{Batch, batch, opening}
use Rattle.steps.specs.declared.Framework.{Framework}
use Rattle.steps.specs.declared.Opened.{Opened}
use Rattle.machine.specs.Tables.{tables}
use Rattle.run.specs.declared.Standing.{Standing}
use Rattle.run.specs.declared.Started.{Started}

abbrev pub stand : Framework → ℕ → ℕ → ℕ → Standing
stand fw next chance value = record { framework = fw; next = next; chance = chance; value = value }

-- a tape goes on behind the draws that were taken, and no further than its end
abbrev pub further : List Float → ℕ → ℕ → ℕ
further tape at used = min (at + used) (length tape)

module _ (ws : List ℕ) where
  abbrev pub lent_tables : Tables
  lent_tables = tables (machine_table ws) (state_table ws) (transition_table ws)

  abbrev pub chance_tape : List Float
  chance_tape = chances (chance_words ws)

  abbrev pub value_tape : List Float
  value_tape = values (value_words ws)

  -- ---- the opening is call 0
  unfoldable pub opened_of : Opened
  opened_of = opening lent_tables (value_of (padding_frac ws)) (value_of (blocking_frac ws)) (opening_time ws) (tapes [] value_tape)

  unfoldable pub started : Started
  started = record {
    refusal = opened_of.refusal;
    stands = stand opened_of.framework (calls_at ws) 0 (further value_tape 0 opened_of.value_used);
  }

  -- ---- a later call: the answer, and where the run stands after it; a refused one takes no draws
  unfoldable pub batch_at : Standing → Batch
  batch_at s =
      batch s.framework lent_tables (get_or ws s.next 0) (events_of ws s.next)
      (tapes (drop s.chance chance_tape) (drop s.value value_tape)) (replicate (machine_max * row_words) 0)

  unfoldable pub stands_after : Standing → Standing
  stands_after s =
      stand (batch_at s).answer.framework (next_call ws s.next)
      (further chance_tape s.chance (batch_at s).answer.chance_used)
      (further value_tape s.value (batch_at s).answer.value_used)

  -- what it prints, as call i
  unfoldable pub printed : ℕ → Standing → List ℕ
  printed i s = call_text i (batch_at s).answer.refusal (batch_at s).answer.actions (batch_at s).out

  -- what n calls print from call i on
  unfoldable pub calls_text : ℕ → ℕ → Standing → List ℕ
  calls_text zero i s = []
  calls_text (suc n) i s = printed i s ++ calls_text n (i + 1) (stands_after s)

  -- a refused opening ends the run
  unfoldable pub run_text : List ℕ
  run_text =
      call_text 0 started.refusal 0 []
      ++ cond (eqb started.refusal 0) (calls_text (call_count ws) 1 started.stands) []

-- The text of a whole input, as bytes: one that is refused is a refused call 0 and nothing more.
unfoldable pub input_text : List ℕ → List ℕ
input_text bs = cond (eqb (input_refusal bs) 0) (run_text (input_words bs)) (call_text 0 (input_refusal bs) 0 [])
