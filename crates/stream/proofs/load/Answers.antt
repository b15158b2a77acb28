-- `stream::load` meets its contract: a refused size leaves the words, and else the words' check answers.
use Rattle.std.proofs.Common.{sym}
use Rattle.std.proofs.lemmas.Result.{err_from_is_err_and}
use Rattle.stream.proofs.Loaded.{size_refused, size_taken}
use Rattle.stream.proofs.load.Goals as goal

pub returns-in_err-check_size : goal.returns-in_err-check_size
returns-in_err-check_size c =
    let e = c.in_err-check_size.ensures in
    let s = size_refused c.args.bytes.now c.args.words.now _ e.is e.told in
    let p = err_from_is_err_and c.from_residual.result c.from_residual.ensures.1 in
    record { answer = rw (p.1, p.2) s.0; words = s.1 }

pub returns : goal.returns
returns c =
    let a = c.args in
    let t = size_taken a.bytes.now a.words.now _ _ (sym c.in_ok-check_size.ensures.is) c.put_words.ensures c.check.ensures in
    record { answer = t.0; words = t.1 }
