-- Places that stop one past the end: their sums, the parts' and the calls' places, and the words between two.
use Prim.Native.Nat.{ℕ, ◌+◌, ◌-◌, ◌≤◌, ◌<◌}
use mathlib.Core.Path.{◌≡◌, sym, ap, ◌∙◌}
use mathlib.Core.Bool.{Bool, cond}
use mathlib.Core.List.{List}
use borrow.Author.Tests.{eq-eqb, ne_eqb}
use native.Mathlib.Omega.{arith}
use native.Mathlib.Numerals.{add-one}
use lib.ListN.{length, take, drop}
use Rattle.stream.specs.Stream.{call_at, call_count, chance_words, check_of, end_at, layout_of, narrow, next_call, part, values_at}
use Rattle.stream.specs.Within.{within, places_of}
use Rattle.stream.specs.Inside.{in_order, calls_grow}
use Rattle.stream.specs.declared.Layout.{Layout}

-- ---- the parts' places

abbrev pub laid : ℕ → ℕ → ℕ → ℕ → ℕ → Layout
laid a b c d e = record { states = a; transitions = b; chances = c; values = d; calls = e }

pub laid_by : {a a' b b' c c' d d' e e' : ℕ} → a ≡ a' → b ≡ b' → c ≡ c' → d ≡ d' → e ≡ e'
    → laid a b c d e ≡ laid a' b' c' d' e'
laid_by p q r s t = cc

-- where the words end where the last call does, no place is beyond the end
pub exact : (ws : List ℕ) → end_at ws ≡ length ws → places_of ws ≡ layout_of ws
exact ws h =
    let o = in_order ws h in
    laid_by (omega arith) (omega arith) (omega arith) (omega arith) (omega arith)

-- the words between two places
pub cut : (ws : List ℕ) (from to at n : ℕ) → from ≡ at → to ≡ at + n
    → take (to - from) (drop from ws) ≡ part at n ws
cut ws from to at n e f =
    let d : to - from ≡ n = omega arith in
    rw (d, e)

-- ---- the calls' places

-- inside, the next call's place is as exact as this one's
pub next_call_lem : (ws : List ℕ) (i at r : ℕ) → at ≡ within ws (call_at ws i) → at ≤ length ws
    → r ≡ within ws (next_call ws at)
    → r ≡ within ws (call_at ws (i + 1))
unfolding call_at
next_call_lem ws i at r e h f =
    let x : at ≡ call_at ws i = omega arith in
    rw (add-one, ← x) f

-- beyond, every later call's place is
pub beyond : (ws : List ℕ) (i calls at : ℕ) → calls ≡ call_count ws → i ≤ calls
    → at ≡ within ws (call_at ws i)
    → length ws < at
    → at ≡ within ws (end_at ws)
unfolding end_at
beyond ws i calls at q l e h = omega (arith, calls_grow ws i (call_count ws) (omega arith))

-- the last call's end
pub all_calls : (ws : List ℕ) (i calls at : ℕ) → calls ≡ call_count ws → i ≡ calls → at ≡ within ws (call_at ws i)
    → at ≡ within ws (end_at ws)
unfolding end_at
all_calls ws i calls at q l e = e ∙ ap (λ (n : ℕ). within ws (call_at ws n)) (l ∙ q)

-- ---- the check's answers

module _ (ws : List ℕ) (end : ℕ) (is : end ≡ within ws (end_at ws)) where
  pub ends : end ≡ length ws → end_at ws ≡ length ws
  ends h = omega arith

  pub wrong_end : (end ≡ length ws → ⊥) → 21 ≡ check_of ws
  unfolding check_of
  wrong_end h = rw (ne_eqb (end_at ws) (length ws) (λ e. h (is ∙ omega (arith, e))))

  -- the chance words, cut out between two places, decide
  pub right_end : (b : Bool) (l : Layout) (cs : List ℕ) → end ≡ length ws → l ≡ places_of ws
      → cs ≡ take (l.values - l.chances) (drop l.chances ws)
      → narrow cs ≡ b
      → cond b 0 21 ≡ check_of ws
  unfolding check_of chance_words values_at
  right_end b l cs h p c n =
      let x : l ≡ layout_of ws = p ∙ exact ws (ends h) in
      let w = c ∙ cut ws _ _ _ _ (ap (λ (q : Layout). q.chances) x) (ap (λ (q : Layout). q.values) x) in
      rw (eq-eqb (end_at ws) (length ws) (ends h), ap narrow (sym w) ∙ n)
