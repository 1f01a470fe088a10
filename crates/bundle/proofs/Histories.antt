-- Histories by their events: one behind another, what their steps send, and what a call that is no send sends. Assumes nothing.
use Prim.Native.Nat.{ℕ, ◌+◌}
use native.Mathlib.Omega.{arith}
use mathlib.Core.Bool.{Bool, true, false, cond}
use mathlib.Core.List.{List, [], ◌∷◌, ◌++◌, map, map-append, append_assoc, append-nil}
use mathlib.Core.Path.{◌≡◌, refl, sym, ap, ◌∙◌}
use lib.Dec.{eqb}
use Rattle.numbers.specs.Writing.{Written}
use Rattle.std.specs.Prelude.{Ok, Err}
use Rattle.theory.specs.System as T
use Rattle.theory.proofs.Histories.{packets_append}
use Rattle.sending.specs.Sender.{marker_from}
use Rattle.receiving.specs.Taking.{TakeAnswer, take_of}
use Rattle.receiving.specs.declared.Taken.TheVariants as taken
use Rattle.bundle.specs.Events.{Parcel, Event, sent, marked, stored, turned_away, lost, nothing, handed, missing, behind, waiting, refused}
use Rattle.bundle.specs.Events.{Handed, sent_by, handed_by, reported_by, each, sum}
use Rattle.bundle.specs.Worlds.{World, Call, asks, arrives, loses, takes, landing, land_seen, ask_seen, arrive_seen, lose_seen, take_seen, seen, call, calls, events, sent_in, handed_in, handed_out, reported_in}
use Rattle.bundle.specs.Log.{steps_of, log}
use Rattle.bundle.specs.Words.{and_then}
use Rattle.numbers.specs.Refusals.{number, number_of}

-- ---- the one induction: what holds before any call, and with one call more wherever it holds, holds of every history

pub along : (P : List Call → Type 0) → P [] → ((h : List Call) (e : Call) → P h → P (and_then h e)) → (h : List Call) → P h
along P first next h = on h [] first
  where
    on : (g h : List Call) → P h → P (h ++ g)
    on [] h now = rw append-nil now
    on (e ∷ g) h now = rw (← append_assoc h (e ∷ []) g) (on g (and_then h e) (next h e now))

-- ---- one history behind another

pub calls_append : (h g : List Call) (w : World) → calls w (h ++ g) ≡ calls (calls w h) g
calls_append [] g w = refl
calls_append (e ∷ h) g w = calls_append h g (call w e)

events_append : (h g : List Call) (w : World) → events w (h ++ g) ≡ events w h ++ events (calls w h) g
events_append [] g w = refl
events_append (e ∷ h) g w = ap (λ (es : List Event). seen w e ∷ es) (events_append h g (call w e))

each_append : {A : Type 0} (f : Event → List A) (es ds : List Event) → each f (es ++ ds) ≡ each f es ++ each f ds
each_append f [] ds = refl
each_append f (e ∷ es) ds = ap (λ (l : List _). f e ++ l) (each_append f es ds) ∙ sym (append_assoc (f e) (each f es) (each f ds))

sum-append : (f : Event → ℕ) (es ds : List Event) → sum f (es ++ ds) ≡ sum f es + sum f ds
sum-append f [] ds = omega arith
sum-append f (e ∷ es) ds = omega (arith, sum-append f es ds)

pub each_on : {A : Type 0} (f : Event → List A) (h g : List Call) (w : World)
    → each f (events w (h ++ g)) ≡ each f (events w h) ++ each f (events (calls w h) g)
each_on f h g w = ap (each f) (events_append h g w) ∙ each_append f (events w h) (events (calls w h) g)

pub sum_on : (f : Event → ℕ) (h g : List Call) (w : World) → sum f (events w (h ++ g)) ≡ sum f (events w h) + sum f (events (calls w h) g)
sum_on f h g w = ap (sum f) (events_append h g w) ∙ sum-append f (events w h) (events (calls w h) g)

-- one call more

pub calls_and : (h : List Call) (e : Call) (w : World) → calls w (and_then h e) ≡ call (calls w h) e
calls_and h e w = calls_append h (e ∷ []) w

pub each_and : {A : Type 0} (f : Event → List A) (h : List Call) (e : Call) (w : World)
    → each f (events w (and_then h e)) ≡ each f (events w h) ++ f (seen (calls w h) e)
each_and f h e w = each_on f h (e ∷ []) w ∙ ap (λ (l : List _). each f (events w h) ++ l) (append-nil (f (seen (calls w h) e)))

pub sum_and : (f : Event → ℕ) (h : List Call) (e : Call) (w : World) → sum f (events w (and_then h e)) ≡ sum f (events w h) + f (seen (calls w h) e)
sum_and f h e w = sum_on f h (e ∷ []) w ∙ omega arith

pub log_append : (h g : List Call) (w : World) → log w (h ++ g) ≡ log w h ++ log (calls w h) g
log_append = each_on steps_of

pub sent_append : (h g : List Call) (w : World) → sent_in w (h ++ g) ≡ sent_in w h ++ sent_in (calls w h) g
sent_append = each_on sent_by

pub handed_append : (h g : List Call) (w : World) → handed_in w (h ++ g) ≡ handed_in w h ++ handed_in (calls w h) g
handed_append h g w =
    ap (map (λ (o : Handed). o.bytes)) (each_on handed_by h g w) ∙ map-append (λ (o : Handed). o.bytes) (handed_out w h) (handed_out (calls w h) g)

pub reported_append : (i : ℕ) (h g : List Call) (w : World) → reported_in i w (h ++ g) ≡ reported_in i w h + reported_in i (calls w h) g
reported_append i = sum_on (reported_by i)

-- ---- the packets of the log are those sent

step_packets : (e : Event) → T.packets (steps_of e) ≡ sent_by e
step_packets (sent i x due) = refl
step_packets (marked i b) = refl
step_packets (stored i x) = refl
step_packets (turned_away i x k) = refl
step_packets (lost i x) = refl
step_packets nothing = refl
step_packets (handed i b) = refl
step_packets (missing i m) = refl
step_packets (behind i) = refl
step_packets (waiting i) = refl
step_packets (refused k) = refl

packets_of : (es : List Event) → T.packets (each steps_of es) ≡ each sent_by es
packets_of [] = refl
packets_of (e ∷ es) =
    packets_append (steps_of e) (each steps_of es) ∙ ap (λ (ps : List (List ℕ)). ps ++ T.packets (each steps_of es)) (step_packets e)
    ∙ ap (λ (ps : List (List ℕ)). sent_by e ++ ps) (packets_of es)

pub log_packets : (h : List Call) (w : World) → T.packets (log w h) ≡ sent_in w h
log_packets h w = packets_of (events w h)

-- ---- what is seen of a call, case by case

module _ (P : Event → Type 0) where
  pub ask_cases : (i : ℕ) (out : List ℕ) (t : Written) → ((b : List ℕ) → P (marked i b)) → ((k : ℕ) → P (refused k)) → P (ask_seen i out t)
  ask_cases i out (Ok n) m r = m _
  ask_cases i out (Err refusal) m r = r (number refusal)

  pub land_cases : (i : ℕ) (x : Parcel) (number : ℕ) → P (stored i x) → ((k : ℕ) → P (turned_away i x k)) → P (land_seen i x number)
  land_cases i x number s t = go (eqb number 0)
    where
      go : (b : Bool) → P (cond b (stored i x) (turned_away i x number))
      go true = s
      go false = t number

  pub arrive_cases : (w : World) (i : ℕ) (road : List Parcel) → ((x : Parcel) → P (stored i x)) → ((x : Parcel) (k : ℕ) → P (turned_away i x k))
      → P nothing → P (arrive_seen w i road)
  arrive_cases w i [] s t n = n
  arrive_cases w i (x ∷ rest) s t n = land_cases i x (number_of (landing w.receiver w.store i x).arrived.answer) (s x) (t x)

  pub lose_cases : (i : ℕ) (road : List Parcel) → ((x : Parcel) → P (lost i x)) → P nothing → P (lose_seen i road)
  lose_cases i [] l n = n
  lose_cases i (x ∷ rest) l n = l x

  pub take_cases : (out : List ℕ) (t : TakeAnswer) → ((i : ℕ) → P (waiting i)) → ((i : ℕ) (b : List ℕ) → P (handed i b)) → ((i m : ℕ) → P (missing i m))
      → ((i : ℕ) → P (behind i)) → ((k : ℕ) → P (refused k)) → P (take_seen out t)
  take_cases out (Ok (taken.Waiting i)) w h m b r = w i
  take_cases out (Ok (taken.Data i n)) w h m b r = h i _
  take_cases out (Ok (taken.Missing i k)) w h m b r = m i k
  take_cases out (Ok (taken.Behind i)) w h m b r = b i
  take_cases out (Err refusal) w h m b r = r (number refusal)

-- nothing but a send sends
module _ (w : World) where
  abbrev SendsNone : Event → Type 0
  SendsNone e = sent_by e ≡ []

  pub ask_sends : (i : ℕ) (out : List ℕ) → sent_by (seen w (asks i out)) ≡ []
  ask_sends i out = ask_cases SendsNone i _ (marker_from w.sender i out).answer (λ b. refl) (λ k. refl)

  pub arrive_sends : (i : ℕ) → sent_by (seen w (arrives i)) ≡ []
  arrive_sends i = arrive_cases SendsNone w i (w.road i) (λ x. refl) (λ x k. refl) refl

  pub lose_sends : (i : ℕ) → sent_by (seen w (loses i)) ≡ []
  lose_sends i = lose_cases SendsNone i (w.road i) (λ x. refl) refl

  pub take_sends : (out : List ℕ) → sent_by (seen w (takes out)) ≡ []
  take_sends out = take_cases SendsNone _ (take_of w.receiver w.store out).result.answer (λ i. refl) (λ i b. refl) (λ i m. refl) (λ i. refl) (λ k. refl)
