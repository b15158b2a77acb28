-- The invariant. `Inv l a` holds of a ledger l within a batch and of the machines a whose pending
-- action is SendPadding, and each step of a batch keeps it: an event's counts (`inv_count`),
-- transitions under unchanged counts (`inv_acts`) and the batch's end (`inv_end`). In words: what a
-- machine has sent, holds and is about to get is within its budget; and it is at most 2 and its
-- allowance more than it had sent when a check last passed by the framework's fraction. Assumes
-- nothing.
use Rattle.std.specs.Prelude.{ℕ, suc, ◌+◌, ◌*◌, ◌-◌, ◌≤◌, ◌<◌, Bool, true, false, ◌||◌, cond, List, [], ◌∷◌, ◌⊎◌, ◌≡◌, refl, T, eqb}
use Rattle.std.proofs.Common.{zero-le, le_trans, le_of_eq, mul-le-mul_right, mul-le-mul, le_refl, add-mul, zero-mul, arith, inl, inr, sym, ap, ◌∙◌, subst, eqb→eq, ne_eqb}
use Rattle.std.proofs.Math.Decide.{dec_le, ℕ_discrete}
use Rattle.machine.specs.Event.{normal_sent, padding_sent}
use Rattle.steps.specs.Budget.{Ledger, empty, plus, without, count, counted, returned, packets, sum}
use Rattle.steps.specs.Budget.Sums.{sum_mono, sum-shift, sum-none, one_of_sum, plus_grows, sum-plus, Below, below_more, below_less, below_pass, below_budget}

-- ---- the kinds of event that the ledger tells apart
pub kind_cases : (P : ℕ → Type 0) → P normal_sent → P padding_sent
    → ((kind : ℕ) → (kind ≡ normal_sent → ⊥) → (kind ≡ padding_sent → ⊥) → P kind) → (kind : ℕ) → P kind
kind_cases P n p o kind = elim (ℕ_discrete kind normal_sent) [
  | yes e ↦ subst P (sym e) n
  | no e ↦ elim (ℕ_discrete kind padding_sent) [ yes f ↦ subst P (sym f) p | no f ↦ o kind e f ]
]

-- every other kind counts nothing
pub count_other : (P : Ledger → Type 0) (l : Ledger) (machine kind : ℕ) → (kind ≡ normal_sent → ⊥)
    → (kind ≡ padding_sent → ⊥)
    → P l → P (count l kind machine)
count_other P l machine kind a b h = rw (ne_eqb kind normal_sent a, ne_eqb kind padding_sent b) h

-- ---- the packets only grow
pub count_grows : (l : Ledger) (kind machine : ℕ) → packets l ≤ packets (count l kind machine)
count_grows l kind machine =
    kind_cases (λ k. packets l ≤ packets (count l k machine)) (omega arith) (omega arith)
    (λ k a b. count_other (λ m. packets l ≤ packets m) l machine k a b (le_refl (packets l))) kind

pub counted_grows : (l : Ledger) (es : List ℕ) → packets l ≤ packets (counted l es)
counted_grows l [] = le_refl (packets l)
counted_grows l (kind ∷ []) = le_refl (packets l)
counted_grows l (kind ∷ machine ∷ es) =
    le_trans (count_grows l kind machine) (counted_grows (count l kind machine) es)

-- ---- what a machine has sent, holds and is about to get
abbrev pub bit : Bool → ℕ
bit true = 1
bit false = 0

abbrev pub due : Ledger → (ℕ → Bool) → ℕ → ℕ
due l a i = l.own i + bit (l.held i) + bit (a i)

abbrev pub nobody : ℕ → Bool
nobody i = false

bit_one : (b : Bool) → T b → bit b ≡ 1
bit_one true t = refl
bit_one false t = absurd t

bit_le : (b : Bool) → bit b ≤ 1
bit_le true = omega arith
bit_le false = omega arith

bit_or : (b c : Bool) → bit (b || c) + 0 ≤ bit b + bit c
bit_or true c = omega arith
bit_or false c = omega arith

pub or_of : (b c : Bool) → T (b || c) → T b ⊎ T c
or_of true c t = inl tt
or_of false c t = inr t

-- a spent SendPadding becomes a packet: the sum stays
due_spent : (own : ℕ → ℕ) (held : ℕ → Bool) (k i x : ℕ) → T (held k)
    → plus own k i + bit (without held k i) + x ≡ own i + bit (held i) + x
due_spent own held k i x h = go (eqb k i) (eqb→eq k i)
  where
    go : (b : Bool) → (T b → k ≡ i)
        → cond b (suc (own i)) (own i) + bit (cond b false (held i)) + x ≡ own i + bit (held i) + x
    go true e = let t = bit_one (held i) (subst (λ (j : ℕ). T (held j)) (e tt) h) in omega arith
    go false e = refl

held_before : (held : ℕ → Bool) (k i : ℕ) → T (without held k i) → T (held i)
held_before held k i = go (eqb k i)
  where
    go : (b : Bool) → T (cond b false (held i)) → T (held i)
    go true t = absurd t
    go false t = t

-- ---- a machine's own normal packets: all of them, since every machine is there from the opening on
abbrev pub heard : Ledger → ℕ → ℕ
heard l i = l.normal

later : (l : Ledger) (i : ℕ) → heard l i ≤ l.normal
later l i = le_refl l.normal

-- ---- What the proof needs of the limits. There are M machines; machine i has the allowance A i and
-- the fraction g i, and the framework the fraction G, each a number of U-ths, 0 for no limit. `Pass i p
-- n s N` says that machine i's check passes at p padding and n normal packets of its own, s padding and
-- N normal packets of all. What is asked of it, up to `cap` packets, are the two laws.
pub record Checks : Type 1 where
  pub U : ℕ
  pub cap : ℕ
  pub M : ℕ
  pub G : ℕ
  pub A : ℕ → ℕ
  pub g : ℕ → ℕ
  pub Pass : ℕ → ℕ → ℕ → ℕ → ℕ → Type 0
  pub own_law : (i p n s N : ℕ) → i < M → 0 < g i → p ≤ s → n ≤ N → s + N ≤ cap → Pass i p n s N
      → (p < A i) ⊎ ((p + n ≡ 0) ⊎ (p * U < g i * (p + n)))
  pub all_law : (i p n s N : ℕ) → i < M → 0 < G → p ≤ s → n ≤ N → s + N ≤ cap → Pass i p n s N
      → (p < A i) ⊎ ((p + n ≡ 0) ⊎ (s * U ≤ G * (s + N)))

module _ (L : Checks) where
  open L use {U, cap, M, G, A, g, Pass, own_law, all_law}

  -- Transitions under unchanged counts: where b has a SendPadding pending, a had, or a check passed at
  -- these counts.
  abbrev pub Acts : Ledger → (ℕ → Bool) → (ℕ → Bool) → Type 0
  Acts l a b = (i : ℕ) → T (b i) → (i < M) × (T (a i) ⊎ Pass i (l.own i) (heard l i) l.padding l.normal)

  -- machine i's x is within its budget
  abbrev pub Within : Ledger → ℕ → ℕ → Type 0
  Within l i x = Below (A i) U (g i) (l.own i + heard l i) x

  -- q i is machine i's padding at the last check that passed by the framework's fraction
  abbrev pub Since : Ledger → (ℕ → Bool) → Type 0
  Since l a =
      (q : ℕ → ℕ) × (sum M q * U ≤ G * packets l) × ((i : ℕ) → i < M → due l a i ≤ q i + A i + 2)

  pub record Inv (l : Ledger) (a : ℕ → Bool) : Type 0 where
    pub holder : (i : ℕ) → T (l.held i) → i < M
    pub actor : (i : ℕ) → T (a i) → i < M
    pub total : l.padding ≡ sum M l.own
    pub machine : (i : ℕ) → i < M → 0 < g i → Within l i (due l a i)
    pub frame : 0 < G → Since l a

  -- a machine's padding is part of all padding
  pub inv_owned : (l : Ledger) (a : ℕ → Bool) → Inv l a → (i : ℕ) → i < M → l.own i ≤ l.padding
  inv_owned l a v i m = le_trans (one_of_sum M l.own i m) (le_of_eq (sym v.total))

  -- ---- the opening
  pub inv_open : Inv empty nobody
  inv_open = record {
    holder = λ i t. absurd t;
    actor = λ i t. absurd t;
    total = sym (sum-none M);
    machine = λ i l p. inl (omega arith);
    frame =
        λ p. (
          (λ i. 0),
          le_trans (le_of_eq (ap (λ (z : ℕ). z * U) (sum-none M) ∙ zero-mul U)) zero-le,
          (λ i l. omega arith),
        );
  }

  -- ---- an event's counts
  inv-normal : (l : Ledger) (a : ℕ → Bool) (machine : ℕ) → Inv l a → Inv (count l normal_sent machine) a
  inv-normal l a machine v = record {
    holder = v.holder;
    actor = v.actor;
    total = v.total;
    machine = λ i k p.
        below_more (A i) U (g i) (l.own i + heard l i) (l.own i + suc (heard l i)) (due l a i)
        (omega arith) (v.machine i k p);
    frame = λ p. let f = v.frame p in (f.0, le_trans f.1 (mul-le-mul (le_refl G) (grows l)), f.2);
  }
    where
      grows : (l : Ledger) → packets l ≤ packets (count l normal_sent machine)
      grows l = omega arith

  inv-padding : (l : Ledger) (a : ℕ → Bool) (k : ℕ) → Inv l a → T (l.held k)
      → Inv (count l padding_sent k) a
  inv-padding l a k v h = record {
    holder = λ i t. v.holder i (held_before l.held k i t);
    actor = v.actor;
    total = ap suc v.total ∙ sym (sum-plus M l.own k (v.holder k h));
    machine = λ i m p.
        let more = plus_grows l.own k i in
        below_less (A i) U (g i) (plus l.own k i + heard l i) (due (count l padding_sent k) a i)
        (due l a i) (le_of_eq (same i))
        (below_more (A i) U (g i) (l.own i + heard l i) (plus l.own k i + heard l i) (due l a i)
        (omega arith) (v.machine i m p));
    frame = λ p.
        let f = v.frame p in (
          f.0,
          le_trans f.1 (mul-le-mul (le_refl G) (grows l)),
          λ i m. le_trans (le_of_eq (same i))
              (f.2 i m),
        );
  }
    where
      same : (i : ℕ) → due (count l padding_sent k) a i ≡ due l a i
      same i = due_spent l.own l.held k i (bit (a i)) h

      grows : (l : Ledger) → packets l ≤ packets (count l padding_sent k)
      grows l = omega arith

  pub inv_count : (l : Ledger) (a : ℕ → Bool) (kind machine : ℕ) → Inv l a
      → (kind ≡ padding_sent → T (l.held machine))
      → Inv (count l kind machine) a
  inv_count l a kind machine v h =
      kind_cases (λ k. (k ≡ padding_sent → T (l.held machine)) → Inv (count l k machine) a)
      (λ e. inv-normal l a machine v)
      (λ e. inv-padding l a machine v (e refl))
      (λ k p q e. count_other (λ m. Inv m a) l machine k p q v) kind h

  -- ---- transitions
  pub inv_acts : (l : Ledger) (a b : ℕ → Bool) → packets l ≤ cap → Inv l a → Acts l a b → Inv l b
  inv_acts l a b small v h = record {
    holder = v.holder;
    actor = λ i t. (h i t).0;
    total = v.total;
    machine = λ i m p. one i m p (b i) (h i);
    frame = λ p. all p (dec_le (l.padding * U) (G * packets l));
  }
    where
      P : ℕ → Type 0
      P i = Pass i (l.own i) (heard l i) l.padding l.normal

      kept : (i : ℕ) → T (a i) → l.own i + bit (l.held i) + 1 ≤ due l a i
      kept i t = let e = bit_one (a i) t in omega arith

      two : (i : ℕ) (x : Bool) → l.own i + bit (l.held i) + bit x ≤ l.own i + 2
      two i x = let p = bit_le (l.held i) in let q = bit_le x in omega arith

      one : (i : ℕ) → i < M → 0 < g i → (x : Bool) → (T x → (i < M) × (T (a i) ⊎ P i))
          → Within l i (l.own i + bit (l.held i) + bit x)
      one i m p false k =
          below_less (A i) U (g i) (l.own i + heard l i) (l.own i + bit (l.held i) + 0) (due l a i)
          (omega arith) (v.machine i m p)
      one i m p true k = elim (k tt).1 [
        | inl t ↦
            below_less (A i) U (g i) (l.own i + heard l i) (l.own i + bit (l.held i) + 1) (due l a i)
            (kept i t) (v.machine i m p)
        | inr t ↦
            below_pass (A i) U (g i) (l.own i) (heard l i) (l.own i + bit (l.held i) + 1)
            (two i true)
            (own_law i (l.own i) (heard l i) l.padding l.normal m p (inv_owned l a v i m) (later l i) small t)
      ]

      local : 0 < G → (l.padding * U ≤ G * packets l → ⊥) → (q : ℕ → ℕ) (i : ℕ) → i < M
          → due l a i ≤ q i + A i + 2
          → (x : Bool) → (T x → (i < M) × (T (a i) ⊎ P i))
          → l.own i + bit (l.held i) + bit x ≤ q i + A i + 2
      local p no_all q i m d false k = omega arith
      local p no_all q i m d true k = elim (k tt).1 [
        | inl t ↦ le_trans (kept i t) d
        | inr t ↦ pass (all_law i (l.own i) (heard l i) l.padding l.normal m p (inv_owned l a v i m) (later l i) small t)
      ]
        where
          pass : (l.own i < A i) ⊎ ((l.own i + heard l i ≡ 0) ⊎ (l.padding * U ≤ G * packets l))
              → l.own i + bit (l.held i) + 1 ≤ q i + A i + 2
          pass (inl k) = let z = bit_le (l.held i) in omega arith
          pass (inr (inl k)) = let z = bit_le (l.held i) in omega arith
          pass (inr (inr k)) = absurd (no_all k)

      -- either all padding is within the framework's fraction now, or no check passed by it
      all : 0 < G → Dec (l.padding * U ≤ G * packets l) → Since l b
      all p (yes k) = (
        l.own,
        le_trans (le_of_eq (ap (λ (z : ℕ). z * U) (sym v.total))) k,
        λ i m. let z = two i
            (b i) in omega arith,
      )
      all p (no k) =
          let f = v.frame p in (f.0, f.1, λ i m. local p k f.0 i m (f.2 i m) (b i) (h i))

  -- ---- a batch's end
  pub inv_end : (l : Ledger) (a : ℕ → Bool) → Inv l a → Inv (returned l a) nobody
  inv_end l a v = record {
    holder = λ i t. elim (or_of (l.held i) (a i) t) [ inl k ↦ v.holder i k | inr k ↦ v.actor i k ];
    actor = λ i t. absurd t;
    total = v.total;
    machine = λ i m p.
        below_less (A i) U (g i) (l.own i + heard l i) (due (returned l a) nobody i) (due l a i)
        (low i) (v.machine i m p);
    frame = λ p. let f = v.frame p in (f.0, f.1, λ i m. le_trans (low i) (f.2 i m));
  }
    where
      low : (i : ℕ) → due (returned l a) nobody i ≤ due l a i
      low i = let z = bit_or (l.held i) (a i) in omega arith

  -- ---- the budgets: x is A i + 2, or what the framework allows beyond its fraction; y is 2
  pub machine_budget : (l : Ledger) (a : ℕ → Bool) → Inv l a → (i x y : ℕ) → i < M → 0 < g i
      → A i + 2 ≤ x → 2 ≤ y
      → (l.own i ≤ x) ⊎ ((l.own i - y) * U < g i * (l.own i + heard l i))
  machine_budget l a v i x y m p h k =
      below_budget (A i) U (g i) (l.own i + heard l i) (l.own i) x y h k
      (below_less (A i) U (g i) (l.own i + heard l i) (l.own i) (due l a i) (omega arith)
      (v.machine i m p))

  -- 2 for each machine suffice
  pub frame_budget : (l : Ledger) (a : ℕ → Bool) → Inv l a → (x : ℕ) → 0 < G → sum M A + 2 * M ≤ x
      → l.padding * U ≤ G * packets l + x * U
  frame_budget l a v x p h =
      let f = v.frame p in
      let q = f.0 in
      let s : sum M l.own ≤ sum M (λ i. q i + A i + 2) =
      sum_mono M l.own (λ i. q i + A i + 2) (λ i m. let z = f.2 i m in omega arith) in
      let e : l.padding ≤ sum M q + x = let t = v.total in let z = sum-shift M q A in omega arith in
      let m : l.padding * U ≤ sum M q * U + x * U =
      le_trans (mul-le-mul_right U e) (le_of_eq (add-mul (sum M q) x U)) in
      let k = f.1 in
      omega arith
