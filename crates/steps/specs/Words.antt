-- The opening and the batch from one tape of raw words (document 02, job 4): the steps at the source `words`, and 24 where the tables
-- pass their checks and a used distribution is drawn outside.
pub mod Honest
pub mod Sound
use Rattle.std.specs.Prelude.{ℕ, List, Bool, cond, ◌&&◌, eqb, Float}
use Rattle.machine.specs.Source.{Source, Telling, tapes, tapes_tell}
use Rattle.machine.specs.Words.{words}
use Rattle.machine.specs.Words.Laws.{words_tell}
use Rattle.machine.specs.declared.source.Place.{Place}
use Rattle.tables.specs.Machine.{tables_refusal}
use Rattle.outside.specs.Outside.{draws_outside}
use Rattle.steps.specs.Events.{Tables, stop}
use Rattle.steps.specs.Framework.{open_refusal, opened_by, opening, Batch, refused, batch}
use Rattle.steps.specs.declared.AnswerWords.{AnswerWords}
use Rattle.steps.specs.declared.Framework.{Framework}
use Rattle.steps.specs.declared.Opened.{Opened}
use Rattle.steps.specs.declared.OpenedWords.{OpenedWords}

-- ---- what a sender lends to draw from: two tapes, or one of words
pub data Lent : Type 0 where
  on_tapes : List Float → List Float → Lent
  on_words : List ℕ → Lent

abbrev pub source_of : Lent → Source Place
source_of (on_tapes chances values) = tapes chances values
source_of (on_words ws) = words ws

pub lent_tells : (l : Lent) → Telling (source_of l)
lent_tells (on_tapes chances values) = tapes_tell chances values
lent_tells (on_words ws) = words_tell ws

-- 24, once the checks of the tables pass
abbrev pub outside_refused : ℕ → Tables → Bool
outside_refused checks T = eqb checks 0 && draws_outside T.machines T.states

-- ---- the opening: 1, 2, the table checks, 24 with words, the draws
unfoldable pub opening_on : Tables → Float → Float → ℕ → Lent → Opened
opening_on T padding blocking time (on_tapes chances values) = opening T padding blocking time (tapes chances values)
opening_on T padding blocking time (on_words ws) =
    cond (outside_refused (open_refusal T padding blocking) T) (opened_by (stop 24)) (opening T padding blocking time (words ws))

abbrev pub opened_in_words : Opened → OpenedWords
opened_in_words o = record { refusal = o.refusal; words_used = o.value_used; framework = o.framework }

abbrev pub opening_words : Tables → Float → Float → ℕ → List ℕ → OpenedWords
opening_words T padding blocking time ws = opened_in_words (opening_on T padding blocking time (on_words ws))

-- ---- a batch: the table checks, 24 with words, then 18 and all that follows
unfoldable pub batch_on : Framework → Tables → ℕ → List ℕ → Lent → List ℕ → Batch
batch_on fw T time es (on_tapes chances values) out = batch fw T time es (tapes chances values) out
batch_on fw T time es (on_words ws) out =
    cond (outside_refused (tables_refusal T.machines T.states T.transitions) T)
    (refused fw out 24)
    (batch fw T time es (words ws) out)

pub record BatchWords : Type 0 where
  pub answer : AnswerWords
  pub out : List ℕ

abbrev pub batch_in_words : Batch → BatchWords
batch_in_words b = record {
  answer = record {
    refusal = b.answer.refusal;
    actions = b.answer.actions;
    words_used = b.answer.value_used;
    framework = b.answer.framework;
  };
  out = b.out;
}

abbrev pub batch_words : Framework → Tables → ℕ → List ℕ → List ℕ → List ℕ → BatchWords
batch_words fw T time es ws out = batch_in_words (batch_on fw T time es (on_words ws) out)
