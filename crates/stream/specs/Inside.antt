-- Where the check accepts, every part and every call lies inside the words.
use Rattle.std.specs.Prelude.{ℕ, zero, suc, ◌+◌, ◌*◌, ◌%◌, ◌≤◌, ◌<◌, ◌≡◌, refl, Bool, true, false, cond, List, [], ◌∷◌, map, eqb, ltb, length}
use Rattle.std.specs.Float.Ieee.{of_bits}
use Rattle.std.specs.Float.{binary32}
use Rattle.text.specs.Words.{chances}
use Rattle.std.proofs.Common.{arith, eq-or-lt_of_le, ⊎_elim, length-take, length-drop, eqb-true, ltb-true}
use Rattle.stream.specs.Stream.{states_at, transitions_at, chances_at, values_at, calls_at, layout_of, check_of}
use Rattle.stream.specs.Stream.{call_at, next_call, end_at, call_count}
use Rattle.stream.specs.Stream.{narrow, chance_words, chance_draws, value_words, value_draws}
use Rattle.stream.specs.Within.{Ordered}

-- ---- the order of the calls, whatever the words say

pub call_grows : (ws : List ℕ) (at : ℕ) → at + 2 ≤ next_call ws at
call_grows ws at = omega arith

pub calls_grow : (ws : List ℕ) (i n : ℕ) → i ≤ n → call_at ws i ≤ call_at ws n
unfolding call_at
calls_grow ws i zero h = let e : i ≡ 0 = omega arith in rw e (omega arith)
calls_grow ws i (suc n) h =
    ⊎_elim
    (λ e. rw e (omega arith))
    (λ l. omega (arith, calls_grow ws i n (omega (arith, l)), call_grows ws (call_at ws n)))
    (eq-or-lt_of_le h)

-- each call before a place takes two words at least
two_each : (ws : List ℕ) (i : ℕ) → 2 * i ≤ call_at ws i
unfolding call_at
two_each ws zero = omega arith
two_each ws (suc i) = omega (arith, two_each ws i, call_grows ws (call_at ws i))

-- the calls end behind their start
pub ends_later : (ws : List ℕ) → calls_at ws ≤ end_at ws
unfolding call_at end_at
ends_later ws = calls_grow ws 0 (call_count ws) (omega arith)

-- the parts' places stand in their order, and none beyond the end, where the last call ends there
pub in_order : (ws : List ℕ) → end_at ws ≡ length ws → Ordered (layout_of ws) (length ws)
unfolding states_at transitions_at chances_at values_at calls_at
in_order ws h =
    let e : calls_at ws ≤ length ws = omega (arith, ends_later ws) in
    record {
      header = omega arith;
      machines = omega arith;
      states = omega arith;
      transitions = omega arith;
      chances = omega arith;
      values = e;
    }

-- ---- where the check accepts

-- the words end where the last call does, and every chance word is below 2^32
pub accepted : (ws : List ℕ) → check_of ws ≡ 0 → (end_at ws ≡ length ws) × (narrow (chance_words ws) ≡ true)
unfolding check_of
accepted ws h = by_end (eqb (end_at ws) (length ws)) refl (narrow (chance_words ws)) refl h
  where
    by_end : (b : Bool) → eqb (end_at ws) (length ws) ≡ b → (n : Bool) → narrow (chance_words ws) ≡ n
        → ◌≡◌ {A = ℕ} (cond b (cond n 0 21) 21) 0
        → (end_at ws ≡ length ws) × (narrow (chance_words ws) ≡ true)
    by_end true e true f z = (eqb-true _ _ e, f)
    by_end true e false f z = absurd (omega (arith, z))
    by_end false e n f z = absurd (omega (arith, z))

-- THEOREM: the parts lie inside, in their order.
pub parts_inside : (ws : List ℕ) → check_of ws ≡ 0 → Ordered (layout_of ws) (length ws)
parts_inside ws h = in_order ws (accepted ws h).0

-- THEOREM: each call lies inside.
pub call_inside : (ws : List ℕ) (i : ℕ) → check_of ws ≡ 0 → i < call_count ws
    → next_call ws (call_at ws i) ≤ length ws
unfolding call_at end_at
call_inside ws i h l = omega (arith, calls_grow ws (suc i) (call_count ws) (omega arith), (accepted ws h).0)

-- THEOREM: the tapes are as long as their counts say, so no longer than the words.
pub tapes_inside : (ws : List ℕ) → check_of ws ≡ 0
    → (length (chance_words ws) ≡ chance_draws ws)
    × (length (value_words ws) ≡ value_draws ws)
    × (chance_draws ws + value_draws ws ≤ length ws)
unfolding chance_words value_words values_at calls_at
tapes_inside ws h =
    let o = parts_inside ws h in
    (simp (length-take, length-drop) (omega arith), simp (length-take, length-drop) (omega arith), omega arith)

-- THEOREM: accepted chance draws have the bits of their whole words.
pub chances_exact : (ws : List ℕ) → narrow ws ≡ true → chances ws ≡ map (of_bits binary32) ws
unfolding narrow
chances_exact [] h = refl
chances_exact (w ∷ ws) h = by_word (ltb w 4294967296) refl h (chances_exact ws)
  where
    by_word : (b : Bool) → ltb w 4294967296 ≡ b → cond b (narrow ws) false ≡ true
        → (narrow ws ≡ true → chances ws ≡ map (of_bits binary32) ws)
        → chances (w ∷ ws) ≡ map (of_bits binary32) (w ∷ ws)
    by_word true e n rest =
        let m : w % 4294967296 ≡ w = omega (arith, ltb-true w 4294967296 e) in
        rw (m, rest n)
    by_word false e n rest = let z : ◌≡◌ {A = Bool} false true = n in cc

-- THEOREM: a call takes two words at least, so calls are at most half as many as words.
pub calls_few : (ws : List ℕ) → check_of ws ≡ 0 → 2 * call_count ws ≤ length ws
unfolding end_at
calls_few ws h = omega (arith, two_each ws (call_count ws), (accepted ws h).0)
