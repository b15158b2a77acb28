-- What a batch on the lent framework leaves: `Promised` on two tapes, `PromisedWords` on words. The contracts of the calls that change
-- it in place and the theorem over such calls both cite these.
use Rattle.std.specs.Prelude.{ℕ, List, ◌≡◌}
use Rattle.machine.specs.Source.{Source}
use Rattle.machine.specs.declared.source.Place.{Place}
use Rattle.steps.specs.Events.{Tables}
use Rattle.steps.specs.Framework.{batch}
use Rattle.steps.specs.Words.{batch_words}
use Rattle.steps.specs.declared.Answer.{Answer}
use Rattle.steps.specs.declared.AnswerWords.{AnswerWords}
use Rattle.steps.specs.declared.Framework.{Framework}
use Rattle.sender.specs.declared.Reply.{Reply}
use Rattle.sender.specs.declared.ReplyWords.{ReplyWords}

-- what crosses to the sender of a batch's answer: all but the framework, which is changed in place
abbrev pub reply_of : Answer → Reply
reply_of a = record { refusal = a.refusal; actions = a.actions; chance_used = a.chance_used; value_used = a.value_used }

-- of a batch on the framework x, with the tables, time, events, source of draws and output that were lent: the framework y, the
-- reply r and the output z that it leaves
pub record Promised (x : Framework) (T : Tables) (time : ℕ) (es : List ℕ) (D : Source Place) (out : List ℕ) (y : Framework) (r : Reply) (z : List ℕ) : Type 0 where
  pub framework : y ≡ (batch x T time es D out).answer.framework
  pub reply : r ≡ reply_of (batch x T time es D out).answer
  pub output : z ≡ (batch x T time es D out).out

-- ---- the same of a batch on the words ws
abbrev pub reply_words_of : AnswerWords → ReplyWords
reply_words_of a = record { refusal = a.refusal; actions = a.actions; words_used = a.words_used }

pub record PromisedWords (x : Framework) (T : Tables) (time : ℕ) (es ws : List ℕ) (out : List ℕ) (y : Framework) (r : ReplyWords) (z : List ℕ) : Type 0 where
  pub framework : y ≡ (batch_words x T time es ws out).answer.framework
  pub reply : r ≡ reply_words_of (batch_words x T time es ws out).answer
  pub output : z ≡ (batch_words x T time es ws out).out
