-- What the printed run prints fits its columns: calls in 6, refusals, action counts, machines, kinds, flags and timers in 4,
-- timeouts and durations in 12. Assumes nothing.
use Rattle.std.specs.Prelude.{ℕ, ◌*◌, ◌^◌, ◌≤◌, ◌<◌, true, ◌≡◌, List, [], drop, get_or, replicate}
use Rattle.std.proofs.Common.{le_trans, arith, lit<}
use Rattle.machine.specs.Constants.{machine_max, row_words}
use Rattle.steps.specs.Framework.{Batch}
use Rattle.steps.proofs.Printable.{RowBounds, rows_bounded, rows_few}
use Rattle.steps.proofs.Refusals.{opening_refusal_on_tapes, batch_refusal_on_tapes}
use Rattle.stream.specs.Stream.{padding_frac, blocking_frac, opening_time, events_of}
use Rattle.text.specs.Words.{value_of}
use Rattle.columns.specs.Columns.{fits}
use Rattle.columns.proofs.Fits.{below_fits}
use Rattle.run.specs.Run.{lent_tables, chance_tape, value_tape, opened_of, batch_at}
use Rattle.run.specs.declared.Standing.{Standing}

call_fits : {n : ℕ} → n ≤ 8192 → fits 6 n ≡ true
call_fits {n} h = below_fits 6 n (omega arith) (omega (arith, lit< {m = 8192} {n = 10 ^ 6} tt))

small_fits : {n : ℕ} → n ≤ 28 → fits 4 n ≡ true
small_fits {n} h = below_fits 4 n (omega arith) (omega (arith, lit< {m = 28} {n = 10 ^ 4} tt))

time_fits : {n : ℕ} → n ≤ 86400000000 → fits 12 n ≡ true
time_fits {n} h = below_fits 12 n (omega arith) (omega (arith, lit< {m = 86400000000} {n = 10 ^ 12} tt))

-- a row's six words
pub record RowFits (row : List ℕ) : Type 0 where
  pub machine : fits 4 (get_or row 0 0) ≡ true
  pub kind : fits 4 (get_or row 1 0) ≡ true
  pub flags : fits 4 (get_or row 2 0) ≡ true
  pub timer : fits 4 (get_or row 3 0) ≡ true
  pub timeout : fits 12 (get_or row 4 0) ≡ true
  pub duration : fits 12 (get_or row 5 0) ≡ true

-- what a call prints
pub record CallFits (i : ℕ) (b : Batch) : Type 0 where
  pub call : fits 6 i ≡ true
  pub refusal : fits 4 b.answer.refusal ≡ true
  pub actions : fits 4 b.answer.actions ≡ true
  pub row : (j : ℕ) → j < b.answer.actions → RowFits (drop (row_words * j) b.out)

row_fits : (row : List ℕ) → RowBounds row → RowFits row
row_fits row b = record {
  machine = small_fits (omega (arith, b.machine));
  kind = small_fits (omega (arith, b.kind));
  flags = small_fits (omega (arith, b.flags));
  timer = small_fits (omega (arith, b.timer));
  timeout = time_fits b.timeout;
  duration = time_fits b.duration;
}

-- THEOREM: a call of the run fits its columns; an accepted input has at most 8,192 words and so fewer calls.
pub printed_fits : (ws : List ℕ) (i : ℕ) (s : Standing) → i ≤ 8192 → CallFits i (batch_at ws s)
unfolding batch_at
printed_fits ws i s h = record {
  call = call_fits h;
  refusal = small_fits (le_trans
      (batch_refusal_on_tapes s.framework (lent_tables ws) (get_or ws s.next 0) (events_of ws s.next)
      (drop s.chance (chance_tape ws)) (drop s.value (value_tape ws)) (replicate (machine_max * row_words) 0)) (omega arith));
  actions = small_fits (le_trans (rows_few _ _ _ _ _ _) (omega arith));
  row = λ j k. row_fits _ (rows_bounded _ _ _ _ _ _ j k);
}

-- THEOREM: so does the opening's line.
pub opening_fits : (ws : List ℕ) → fits 4 (opened_of ws).refusal ≡ true
unfolding opened_of
opening_fits ws = small_fits (le_trans
    (opening_refusal_on_tapes (lent_tables ws) (value_of (padding_frac ws)) (value_of (blocking_frac ws)) (opening_time ws) [] (value_tape ws))
    (omega arith))
