-- `text::put_words` meets its contract: the first k chunks of eight bytes spell the first k words.
use Rattle.std.proofs.Common.{◌≡◌, ◌/◌, ◌∙◌, length, arith, take}
use Rattle.std.specs.Int.{w64, from_le_bytes}
use lib.Seq.{length-take-le}
use Rattle.text.proofs.Stores.{words_of_chunks}
use Rattle.text.proofs.put_words.Goals as goal

pub returns : goal.returns
returns c =
    let a = c.args in
    let cs = c.as_chunks.result.0.now in
    let e = c.as_chunks.ensures in
    let n : length (take a.k cs) ≡ a.k = length-take-le a.k cs (omega (arith, e.front_len)) in
    c.put.ensures (from_le_bytes w64) (λ item made h. h)
    ∙ rw (n, e.front, words_of_chunks (length a.b.now / 8) a.k a.b.now (omega arith))
