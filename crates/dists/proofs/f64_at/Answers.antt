-- `f64_at` meets its contract: it is that of `f64_of_word` at what `word` ensures. Assumes nothing.
use Rattle.dists.proofs.f64_at.Goals as goal

pub returns : goal.returns
returns c = rw c.word.ensures at c.f64_of_word.ensures
