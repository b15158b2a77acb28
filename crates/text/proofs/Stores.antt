-- The words that bytes spell, and what is made of one item more of a list.
use Rattle.std.proofs.Common.{ℕ, zero, suc, ◌+◌, ◌*◌, ◌≤◌, ◌<◌, ◌≡◌, refl, sym, ap, ◌∙◌, List, [], ◌∷◌, ◌++◌, append_assoc, map, add-one, arith, lit<, length, take, drop, set, get_or, length-append, drop-cons}
use Rattle.std.proofs.lemmas.List.{get_or-take, get_or-drop, length-map, map-append}
use Rattle.std.specs.Int.{w64, from_le_bytes}
use Rattle.std.specs.Simd.{first_chunks}
use lib.Seq.{set_at, take-suc, length-take-le, drop-drop}
use Rattle.text.specs.Words.{word_at, words_to}

-- the words are as many as they say
pub length-words : (b : List ℕ) (k : ℕ) → length (words_to b k) ≡ k
unfolding words_to
length-words b zero = refl
length-words b (suc k) = length-append (words_to b k) (word_at b (8 * k) ∷ []) ∙ omega (arith, length-words b k)

-- a word is what its eight bytes spell, the low byte first
word_is : (b : List ℕ) (at : ℕ) → from_le_bytes w64 (take 8 (drop at b)) ≡ word_at b at
word_is b at =
    let L : List ℕ = take 8 (drop at b) in
    let s : from_le_bytes w64 L
    ≡ get_or L 0 0 + get_or L 1 0 * 256 + get_or L 2 0 * 65536 + get_or L 3 0 * 16777216 + get_or L 4 0 * 4294967296
    + get_or L 5 0 * 1099511627776
    + get_or L 6 0 * 281474976710656
    + get_or L 7 0 * 72057594037927936 = refl in
    let z : at + 0 ≡ at = omega arith in
    let g : (i : ℕ) → i < 8 → get_or L i 0 ≡ get_or b (at + i) 0 =
    λ (i : ℕ) (h : i < 8). get_or-take 8 (drop at b) i 0 h ∙ get_or-drop at b i 0 in
    let g0 : get_or L 0 0 ≡ get_or b at 0 = rw z at (g 0 (lit< tt)) in
    s ∙ omega (arith, g0, g 1 (lit< tt), g 2 (lit< tt), g 3 (lit< tt), g 4 (lit< tt), g 5 (lit< tt), g 6 (lit< tt), g 7 (lit< tt))

-- what is made of one chunk more
one_chunk : {A : Type 0} (f : List ℕ → A) (k : ℕ) (b : List ℕ)
    → map f (first_chunks 8 (suc k) b) ≡ map f (first_chunks 8 k b) ++ (f (take 8 (drop (8 * k) b)) ∷ [])
one_chunk f zero b = refl
one_chunk f (suc k) b =
    let e : 8 + 8 * k ≡ 8 * suc k = omega arith in
    rw (one_chunk f k (drop 8 b), drop-drop (8 * k) 8 b, e)

chunk_words : (b : List ℕ) (k : ℕ) → map (from_le_bytes w64) (first_chunks 8 k b) ≡ words_to b k
unfolding words_to
chunk_words b zero = refl
chunk_words b (suc k) = rw (one_chunk (from_le_bytes w64) k b, chunk_words b k, word_is b (8 * k))

take_chunks : (n k : ℕ) (b : List ℕ) → k ≤ n → take k (first_chunks 8 n b) ≡ first_chunks 8 k b
take_chunks n zero b h = refl
take_chunks zero (suc k) b h = absurd (omega (arith, h))
take_chunks (suc n) (suc k) b h = rw (take_chunks n k (drop 8 b) (omega (arith, h)))

-- the first k chunks of n spell the first k words
pub words_of_chunks : (n k : ℕ) (b : List ℕ) → k ≤ n → map (from_le_bytes w64) (take k (first_chunks 8 n b)) ≡ words_to b k
words_of_chunks n k b h = ap (map (from_le_bytes w64)) (take_chunks n k b h) ∙ chunk_words b k

module _ {A B : Type 0} (f : A → B) (xs : List A) (o out : List B) (i : ℕ) where
  -- what is made of one item more
  pub put_more : (x : A) (y : B) → i < length xs → length xs ≤ length o → out ≡ map f (take i xs) ++ drop i o
      → x ≡ get_or xs i x
      → y ≡ f x
      → set out i y ≡ map f (take (i + 1) xs) ++ drop (i + 1) o
  put_more x y h g e p q =
      let T : List B = map f (take i xs) in
      let n : length T ≡ i = length-map (take i xs) f ∙ length-take-le i xs (omega arith) in
      let s : map f (take (suc i) xs) ≡ T ++ (f (get_or xs i x) ∷ []) =
      ap (map f) (take-suc xs i x h) ∙ map-append f (take i xs) (get_or xs i x ∷ []) in
      let b : i < length o = omega arith in
      rw (add-one, s, e, drop-cons o i y b, set_at T (get_or o i y) (drop (suc i) o) y i n, ← p, q)
      (sym (append_assoc T (f x ∷ []) (drop (suc i) o)))
