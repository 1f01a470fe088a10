-- What holds of one line at every moment, and that each thing that can happen to a line keeps it.
-- Assumes nothing.
use Prim.Native.Nat.{ℕ, suc, ◌+◌, ◌≤◌, ◌<◌}
use mathlib.Core.List.{List, [], ◌∷◌, ◌++◌}
use mathlib.Core.Path.{◌≡◌, refl, sym, ap, subst}
use mathlib.Core.Logic.{inl, inr}
use native.Mathlib.Nat.{le_refl}
use native.Mathlib.Omega.{arith}
use lib.ListN.{length}
use Rattle.theory.specs.Sending.{Plan, carried, line_of}
use Rattle.theory.specs.System.{Item, packet, marker, Line, at_opening, put, arrive_of, lose_of, line_taken}
use Rattle.theory.specs.Words.{total, before, Yielded, NoneBehind}
use Rattle.theory.proofs.Carried.{cond_lt, cond_ge, cond_ne, total_snoc, one}
use Rattle.theory.proofs.Carried.{carried_same, carried_mono, sum, sum_same, sum_other, sum_before}

-- the label at which a line goes on, once it has yielded these items, latest first
abbrev pub next : List Item → ℕ
next [] = 0
next (packet k x ∷ rest) = suc k
next (marker k m ∷ rest) = k

-- all these items were sent before label c
abbrev pub Past : ℕ → List Item → Type 0
Past c [] = Unit {0}
Past c (packet k x ∷ rest) = (k < c) × Past c rest
Past c (marker k m ∷ rest) = (k ≤ c) × Past c rest

pub past_more : (c d : ℕ) → c ≤ d → (xs : List Item) → Past c xs → Past d xs
past_more c d h [] t = tt
past_more c d h (packet k x ∷ rest) t = let u = t.0 in (omega arith, past_more c d h rest t.1)
past_more c d h (marker k m ∷ rest) t = let u = t.0 in (omega arith, past_more c d h rest t.1)

pub past_yielded : (c d : ℕ) (xs : List Item) → Past d xs → Yielded c xs → c ≤ d
past_yielded c d [] t y = omega arith
past_yielded c d (packet k x ∷ rest) t y = past_yielded c d rest t.1 y
past_yielded c d (marker k m ∷ rest) t (inl e) = let u = t.0 in omega arith
past_yielded c d (marker k m ∷ rest) t (inr y) = past_yielded c d rest t.1 y

module _ (p : Plan) (bytes : ℕ → List ℕ) where
  abbrev lengths : ℕ → ℕ
  lengths n = length (bytes n)

  -- items of line i, each no earlier than the one before: from label c to label e
  abbrev pub Chain : ℕ → ℕ → List Item → ℕ → Type 0
  Chain i c [] e = c ≤ e
  Chain i c (packet k x ∷ rest) e = (c ≤ k) × (line_of p lengths k ≡ i) × (x ≡ bytes k) × Chain i (suc k) rest e
  Chain i c (marker k m ∷ rest) e = (c ≤ k) × (m ≡ carried p lengths k i) × Chain i k rest e

  -- a chain may start earlier, end later, and grow at its end
  pub chain_start : (i c d e : ℕ) → d ≤ c → (xs : List Item) → Chain i c xs e → Chain i d xs e
  chain_start i c d e h [] t = omega arith
  chain_start i c d e h (packet k x ∷ rest) t = let u = t.0 in (omega arith, t.1, t.2, t.3)
  chain_start i c d e h (marker k m ∷ rest) t = let u = t.0 in (omega arith, t.1, t.2)

  pub chain_end : (i c e f : ℕ) → e ≤ f → (xs : List Item) → Chain i c xs e → Chain i c xs f
  chain_end i c e f h [] t = omega arith
  chain_end i c e f h (packet k x ∷ rest) t = (t.0, t.1, t.2, chain_end i (suc k) e f h rest t.3)
  chain_end i c e f h (marker k m ∷ rest) t = (t.0, t.1, chain_end i k e f h rest t.2)

  pub chain_le : (i c e : ℕ) (xs : List Item) → Chain i c xs e → c ≤ e
  chain_le i c e [] t = t
  chain_le i c e (packet k x ∷ rest) t = let u = t.0 in let v = chain_le i (suc k) e rest t.3 in omega arith
  chain_le i c e (marker k m ∷ rest) t = let u = t.0 in let v = chain_le i k e rest t.2 in omega arith

  pub chain_packet : (i c e k : ℕ) → e ≤ k → line_of p lengths k ≡ i → (xs : List Item) → Chain i c xs e
      → Chain i c (xs ++ (packet k (bytes k) ∷ [])) (suc k)
  chain_packet i c e k h l [] t = (omega arith, l, refl, le_refl _)
  chain_packet i c e k h l (packet j x ∷ rest) t = (t.0, t.1, t.2, chain_packet i (suc j) e k h l rest t.3)
  chain_packet i c e k h l (marker j m ∷ rest) t = (t.0, t.1, chain_packet i j e k h l rest t.2)

  pub chain_marker : (i c e k : ℕ) → e ≤ k → (xs : List Item) → Chain i c xs e
      → Chain i c (xs ++ (marker k (carried p lengths k i) ∷ [])) k
  chain_marker i c e k h [] t = (omega arith, refl, le_refl _)
  chain_marker i c e k h (packet j x ∷ rest) t = (t.0, t.1, t.2, chain_marker i (suc j) e k h rest t.3)
  chain_marker i c e k h (marker j m ∷ rest) t = (t.0, t.1, chain_marker i j e k h rest t.2)

  -- sums over items that are all behind, or all before, a label
  pub chain_zero : (i c e k : ℕ) → k ≤ c → (xs : List Item) → Chain i c xs e → total (before p i k) xs ≡ 0
  chain_zero i c e k h [] t = refl
  chain_zero i c e k h (packet j x ∷ rest) t =
      let u = t.0 in
      omega (arith, chain_zero i (suc j) e k (omega arith) rest t.3, cond_ge {n = j} {k = k} (p.charge i (length x)) 0 (omega arith))
  chain_zero i c e k h (marker j m ∷ rest) t = let u = t.0 in chain_zero i j e k (omega arith) rest t.2

  pub chain_none : (i c e k : ℕ) → k < c → (xs : List Item) → Chain i c xs e → total (one k) xs ≡ 0
  unfolding one
  chain_none i c e k h [] t = refl
  chain_none i c e k h (packet j x ∷ rest) t =
      let u = t.0 in
      omega (arith, chain_none i (suc j) e k (omega arith) rest t.3, cond_ne {n = j} {k = k} 1 0 (λ g. omega arith))
  chain_none i c e k h (marker j m ∷ rest) t = let u = t.0 in chain_none i j e k (omega arith) rest t.2

  -- every packet's charge
  abbrev pub full : ℕ → ℕ → List ℕ → ℕ
  full i n x = p.charge i (length x)

  pub past_full : (i c k : ℕ) → c ≤ k → (xs : List Item) → Past c xs → total (before p i k) xs ≡ total (full i) xs
  past_full i c k h [] t = refl
  past_full i c k h (packet j x ∷ rest) t =
      let u = t.0 in
      omega (arith, past_full i c k h rest t.1, cond_lt {n = j} {k = k} (p.charge i (length x)) 0 (omega arith))
  past_full i c k h (marker j m ∷ rest) t = past_full i c k h rest t.1

  pub past_none : (c k : ℕ) → c ≤ k → (xs : List Item) → Past c xs → total (one k) xs ≡ 0
  unfolding one
  past_none c k h [] t = refl
  past_none c k h (packet j x ∷ rest) t =
      let u = t.0 in
      omega (arith, past_none c k h rest t.1, cond_ne {n = j} {k = k} 1 0 (λ g. omega arith))
  past_none c k h (marker j m ∷ rest) t = past_none c k h rest t.1

  pub lost_full : (i c k : ℕ) → c ≤ k → (xs : List Item) → NoneBehind c xs → total (before p i k) xs ≡ total (full i) xs
  lost_full i c k h [] t = refl
  lost_full i c k h (packet j x ∷ rest) t =
      let u = t.0 in
      omega (arith, lost_full i c k h rest t.1, cond_lt {n = j} {k = k} (p.charge i (length x)) 0 (omega arith))
  lost_full i c k h (marker j m ∷ rest) t = lost_full i c k h rest t

  pub lost_none : (c k : ℕ) → c ≤ k → (xs : List Item) → NoneBehind c xs → total (one k) xs ≡ 0
  unfolding one
  lost_none c k h [] t = refl
  lost_none c k h (packet j x ∷ rest) t =
      let u = t.0 in
      omega (arith, lost_none c k h rest t.1, cond_ne {n = j} {k = k} 1 0 (λ g. omega arith))
  lost_none c k h (marker j m ∷ rest) t = lost_none c k h rest t

  -- Line i when n packets have been sent. The queue holds labels up to `middle`, the road those from there on. The far end is no further than the
  -- sender was at what it takes next; it stands where packets taken and bytes reported have brought it; no packet is made or vanishes; and with
  -- no loss behind some marker taken it stands where the sender stood.
  pub record LineOk (n i : ℕ) (l : Line) : Type 0 where
    pub middle : ℕ
    pub past : Past (next l.taken) l.taken
    pub held : Chain i (next l.taken) l.store middle
    pub way : Chain i middle l.road n
    pub low : l.position ≤ carried p lengths (next l.taken) i
    pub accounted : total (full i) l.taken + l.reported ≡ l.position
    pub conserved : (f : ℕ → List ℕ → ℕ)
        → total f l.taken + total f l.lost + (total f l.store + total f l.road) ≡ sum p bytes f n i
    pub in_step : (c : ℕ) → Yielded c l.taken → NoneBehind c l.lost → l.position ≡ carried p lengths (next l.taken) i

  -- what line i had carried at a label j with nothing queued before it: what was taken and what was lost before it
  pub spent : (n i j : ℕ) (l : Line) (o : LineOk n i l) → next l.taken ≤ j → Chain i j l.store o.middle
      → carried p lengths j i ≡ total (full i) l.taken + total (before p i j) l.lost
  spent n i j l o h t =
      let a = o.conserved (before p i j) in
      let b = chain_le i j o.middle l.store t in
      let c = chain_le i o.middle n l.road o.way in
      let d = chain_zero i j o.middle j (le_refl j) l.store t in
      let e = chain_zero i o.middle n j b l.road o.way in
      let f = past_full i (next l.taken) j h l.taken o.past in
      let g = sum_before p bytes n j i (omega arith) in
      omega arith

  -- A send: the chosen line gets the packet, the others only see the count rise.
  pub keep_put : (n i : ℕ) (l : Line) → line_of p lengths n ≡ i → LineOk n i l → LineOk (suc n) i (put (packet n (bytes n)) l)
  keep_put n i l e o = record {
    middle = o.middle;
    past = o.past;
    held = o.held;
    way = chain_packet i o.middle n n (le_refl n) e l.road o.way;
    low = o.low;
    accounted = o.accounted;
    conserved = λ f. omega (arith, o.conserved f, sum_same p bytes f n i e, total_snoc f l.road (packet n (bytes n)));
    in_step = o.in_step;
  }

  pub keep_other : (n i : ℕ) (l : Line) → (line_of p lengths n ≡ i → ⊥) → LineOk n i l → LineOk (suc n) i l
  keep_other n i l e o = record {
    middle = o.middle;
    past = o.past;
    held = o.held;
    way = chain_end i o.middle n (suc n) (omega arith) l.road o.way;
    low = o.low;
    accounted = o.accounted;
    conserved = λ f. omega (arith, o.conserved f, sum_other p bytes f n i e);
    in_step = o.in_step;
  }

  pub keep_ask : (n i : ℕ) (l : Line) → LineOk n i l → LineOk n i (put (marker n (carried p lengths n i)) l)
  keep_ask n i l o = record {
    middle = o.middle;
    past = o.past;
    held = o.held;
    way = chain_marker i o.middle n n (le_refl n) l.road o.way;
    low = o.low;
    accounted = o.accounted;
    conserved = λ f. omega (arith, o.conserved f, total_snoc f l.road (marker n (carried p lengths n i)));
    in_step = o.in_step;
  }

  pub keep_arrive : (n i : ℕ) (l : Line) (items : List Item) → l.road ≡ items → LineOk n i l → LineOk n i (arrive_of items l)
  keep_arrive n i l [] e o = o
  keep_arrive n i l (packet k x ∷ rest) e o =
      let t : Chain i o.middle (packet k x ∷ rest) n = subst (λ (w : List Item). Chain i o.middle w n) e o.way in
      record {
        middle = suc k;
        past = o.past;
        held = subst (λ (y : List ℕ). Chain i (next l.taken) (l.store ++ (packet k y ∷ [])) (suc k)) (sym t.2)
            (chain_packet i (next l.taken) o.middle k t.0 t.1 l.store o.held);
        way = t.3;
        low = o.low;
        accounted = o.accounted;
        conserved = λ f. omega (arith, o.conserved f, ap (total f) e, total_snoc f l.store (packet k x));
        in_step = o.in_step;
      }
  keep_arrive n i l (marker k m ∷ rest) e o =
      let t : Chain i o.middle (marker k m ∷ rest) n = subst (λ (w : List Item). Chain i o.middle w n) e o.way in
      record {
        middle = k;
        past = o.past;
        held = subst (λ (y : ℕ). Chain i (next l.taken) (l.store ++ (marker k y ∷ [])) k) (sym t.1)
            (chain_marker i (next l.taken) o.middle k t.0 l.store o.held);
        way = t.2;
        low = o.low;
        accounted = o.accounted;
        conserved = λ f. omega (arith, o.conserved f, ap (total f) e, total_snoc f l.store (marker k m));
        in_step = o.in_step;
      }

  pub keep_lose : (n i : ℕ) (l : Line) (items : List Item) → l.road ≡ items → LineOk n i l → LineOk n i (lose_of items l)
  keep_lose n i l [] e o = o
  keep_lose n i l (packet k x ∷ rest) e o =
      let t : Chain i o.middle (packet k x ∷ rest) n = subst (λ (w : List Item). Chain i o.middle w n) e o.way in
      let u = t.0 in
      record {
        middle = o.middle;
        past = o.past;
        held = o.held;
        way = chain_start i (suc k) o.middle n (omega arith) rest t.3;
        low = o.low;
        accounted = o.accounted;
        conserved = λ f. omega (arith, o.conserved f, ap (total f) e);
        in_step = λ c y z. o.in_step c y z.1;
      }
  keep_lose n i l (marker k m ∷ rest) e o =
      let t : Chain i o.middle (marker k m ∷ rest) n = subst (λ (w : List Item). Chain i o.middle w n) e o.way in
      record {
        middle = o.middle;
        past = o.past;
        held = o.held;
        way = chain_start i k o.middle n t.0 rest t.2;
        low = o.low;
        accounted = o.accounted;
        conserved = λ f. omega (arith, o.conserved f, ap (total f) e);
        in_step = o.in_step;
      }

  -- On a line in step nothing was sent between where the far end stands and the head of the queue.
  pub no_gap : (n i j c : ℕ) (l : Line) (o : LineOk n i l) → Yielded c l.taken → NoneBehind c l.lost
      → next l.taken ≤ j → Chain i j l.store o.middle → carried p lengths j i ≡ l.position
  no_gap n i j c l o y z h t =
      let a = past_yielded c (next l.taken) l.taken o.past y in
      let b = spent n i j l o h t in
      let d = spent n i (next l.taken) l o (le_refl _) o.held in
      let e = lost_full i c j (omega arith) l.lost z in
      let f = lost_full i c (next l.taken) a l.lost z in
      let g = o.in_step c y z in
      omega arith

  pub keep_take : (n i : ℕ) (l : Line) (items : List Item) → l.store ≡ items → LineOk n i l → LineOk n i (line_taken p i items l)
  keep_take n i l [] e o = o
  keep_take n i l (packet k x ∷ rest) e o =
      let t : Chain i (next l.taken) (packet k x ∷ rest) o.middle =
      subst (λ (w : List Item). Chain i (next l.taken) w o.middle) e o.held in
      let u = t.0 in
      let w : Chain i k l.store o.middle = subst (λ (w : List Item). Chain i k w o.middle) (sym e) (le_refl k, t.1, t.2, t.3) in
      let g : p.charge i (length x) ≡ p.charge i (lengths k) = ap (λ (y : List ℕ). p.charge i (length y)) t.2 in
      record {
        middle = o.middle;
        past = (le_refl _, past_more (next l.taken) (suc k) (omega arith) l.taken o.past);
        held = t.3;
        way = o.way;
        low = omega (arith, o.low, carried_same p bytes k i t.1, carried_mono p bytes (next l.taken) k i u, g);
        accounted = omega (arith, o.accounted);
        conserved = λ f. omega (arith, o.conserved f, ap (total f) e);
        in_step = λ c y z. omega (arith, no_gap n i k c l o y z u w, carried_same p bytes k i t.1, g);
      }
  keep_take n i l (marker k m ∷ rest) e o =
      let t : Chain i (next l.taken) (marker k m ∷ rest) o.middle =
      subst (λ (w : List Item). Chain i (next l.taken) w o.middle) e o.held in
      record {
        middle = o.middle;
        past = (le_refl _, past_more (next l.taken) k t.0 l.taken o.past);
        held = t.2;
        way = o.way;
        low = omega (arith, t.1);
        accounted = omega (arith, o.accounted, o.low, t.1, carried_mono p bytes (next l.taken) k i t.0);
        conserved = λ f. omega (arith, o.conserved f, ap (total f) e);
        in_step = λ c y z. t.1;
      }

  pub keep_opened : (i : ℕ) → LineOk 0 i (at_opening.line i)
  unfolding sum carried
  keep_opened i = record {
    middle = 0;
    past = tt;
    held = le_refl _;
    way = le_refl _;
    low = le_refl _;
    accounted = refl;
    conserved = λ f. refl;
    in_step = λ c y z. refl;
  }
