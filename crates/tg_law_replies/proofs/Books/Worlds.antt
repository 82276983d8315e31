-- The books of all clients through the steps of a world, and along a run.
use Rattle.std.proofs.Common.{◌≡◌, ◌⊎◌, ℕ, zero, suc, ◌+◌, ◌<◌, ◌≤◌, List, [], ◌∷◌, ◌++◌, map, length, Bool, true, false, refl, sym, ap, ◌∙◌, subst, inl, inr, arith, Option, Some, None, is_some}
use Rattle.std.specs.Prelude.{not, ◌==◌, nat_lt, slice_set, slice_index_or, slice_get}
use Rattle.tg_base.specs.Clusters.{Header}
use Rattle.tg_base.specs.declared.ids.NodeId.{NodeId}
use Rattle.tg_base.specs.declared.ids.Oid.{Oid}
use Rattle.tg_base.specs.declared.ids.Role.{Role}
use Rattle.tg_base.specs.declared.ids.Role.TheVariants as role
use Rattle.tg_base.specs.declared.packet.Packet.{Packet}
use Rattle.tg_entry.specs.declared.entry.Entry.{Entry}
use Rattle.tg_kind.specs.Meaning.{Meaning}
use Rattle.tg_model.specs.declared.command.Command.TheVariants as cmd
use Rattle.tg_model.specs.declared.command.Event.TheVariants.{Command as Commands, Deliver, Lose, Tick, Stop}
use Rattle.tg_model.specs.declared.refusal.Refusal.TheVariants as cause
use Rattle.tg_model.specs.declared.trace.What.TheVariants as told
use Rattle.tg_model.specs.Kinds.{CommandOf, EventOf, MarkOf, NoteOf}
use Rattle.tg_model.specs.Traces.{Trace}
use Rattle.tg_protocol.specs.Words.{client_id, numbers}
use Rattle.tg_protocol.specs.Appending.{AppendEnd}
use Rattle.tg_protocol.specs.Replies.{reply}
use Rattle.tg_protocol.specs.Transactions.{Tx}
use Rattle.tg_protocol.specs.Clients.{Task, Appending, Work, Client, new_client, refusal}
use Rattle.tg_protocol.specs.Answers.{Moved, moved, note}
use Rattle.tg_protocol.specs.ClientSteps.{task_in, feed, refused_or, ClientTurn, called, client_command, client_deliver, tick_by, client_tick}
use Rattle.tg_protocol.specs.Worlds.{World, Told, start, client, unit_moves, layout_moves, seqr_moves, client_turned, moves, comes, handed, delivers, noted_if, commands, ticks, ticks_if, stops_if, mark_of, counted, happens, next_event, runs, count_of, has_stopped, trace}
use Rattle.tg_protocol.specs.Runs.{Moves, Next, Takes, run}
use Rattle.tg_law_replies.proofs.History.Members.{Has, and_both, lt_of, same_number, number_same, contrary, has_image, has_either, has_left, has_right}
use Rattle.tg_law_replies.proofs.Replies.Books.{mark}
use Rattle.tg_law_replies.proofs.Replies.Steps.{ended_here}
use Rattle.tg_law_replies.specs.Replies.Ended.{work_ends, ended_in}
use Rattle.tg_law_replies.proofs.Books.Effects.{Suits}
use Rattle.tg_law_replies.proofs.Books.Commands.{Turned, Idles, Takes as Taken, taken_by, ended_by, Delivered, delivered, commanding}
use Rattle.tg_law_replies.proofs.Books.Turns.{no_some, same_some, BookOf, tells_on, DraftOf, draft_more, turned}
use Rattle.tg_law_replies.proofs.Books.Closing.{Only, Held, None', NotFull, only_turned, held_turned, begun_turned, came, Came, Waited, Given, Ends'}

-- Lists.

pub set_same : {X : Type 0} → (xs : List X) (i : ℕ) (y d : X) → i < length xs → slice_index_or (slice_set xs i y) i d ≡ y
set_same [] i y d less = absurd (omega (arith, less))
set_same (x ∷ xs) zero y d less = refl
set_same (x ∷ xs) (suc i) y d less = set_same xs i y d (omega (arith, less))

pub set_other : {X : Type 0} → (xs : List X) (i k : ℕ) (y d : X) → (i ≡ k → ⊥) → slice_index_or (slice_set xs i y) k d ≡ slice_index_or xs k d
set_other [] i k y d other = refl
set_other (x ∷ xs) zero zero y d other = absurd (other refl)
set_other (x ∷ xs) zero (suc k) y d other = refl
set_other (x ∷ xs) (suc i) zero y d other = refl
set_other (x ∷ xs) (suc i) (suc k) y d other = set_other xs i k y d (λ e. other (ap suc e))

map_both : {X Y : Type 0} → (f : X → Y) (xs ys : List X) → map f (xs ++ ys) ≡ map f xs ++ map f ys
map_both f [] ys = refl
map_both f (x ∷ xs) ys = ap (λ zs. f x ∷ zs) (map_both f xs ys)

pub nil_right : {X : Type 0} → (xs : List X) → xs ++ [] ≡ xs
nil_right [] = refl
nil_right (x ∷ xs) = ap (λ ys. x ∷ ys) (nil_right xs)

pub regroup : {X : Type 0} → (xs ys zs : List X) → (xs ++ ys) ++ zs ≡ xs ++ (ys ++ zs)
regroup [] ys zs = refl
regroup (x ∷ xs) ys zs = ap (λ us. x ∷ us) (regroup xs ys zs)

tail_is : {X : Type 0} → (x y : X) (xs ys : List X) → x ∷ xs ≡ y ∷ ys → xs ≡ ys
tail_is x y xs ys e = cc

head_is : {X : Type 0} → (x y : X) (xs ys : List X) → x ∷ xs ≡ y ∷ ys → x ≡ y
head_is x y xs ys e = cc

pub cancel : {X : Type 0} → (xs ys zs : List X) → xs ++ ys ≡ xs ++ zs → ys ≡ zs
cancel [] ys zs e = e
cancel (x ∷ xs) ys zs e = cancel xs ys zs (tail_is x x (xs ++ ys) (xs ++ zs) e)

-- of two beginnings of a list one is the longer
abbrev pub Compared : {X : Type 0} → List X → List X → X → Type 0
Compared {X} xs zs u = ((mid : List X) × (zs ≡ xs ++ mid)) ⊎ ((mid : List X) × (xs ≡ zs ++ u ∷ mid))

longer : {X : Type 0} → (x z : X) (xs zs : List X) (u : X) → x ≡ z → Compared xs zs u → Compared (x ∷ xs) (z ∷ zs) u
longer x z xs zs u e (inl p) = let f = sym e in inl (p.0, λ i. f i ∷ p.1 i)
longer x z xs zs u e (inr p) = inr (p.0, λ i. e i ∷ p.1 i)

pub compare : {X : Type 0} → (xs ys zs us : List X) (u : X) → xs ++ ys ≡ zs ++ u ∷ us → Compared xs zs u
compare [] ys zs us u e = inl (zs, refl)
compare (x ∷ xs) ys [] us u e = let f = head_is x u (xs ++ ys) us e in inr (xs, λ i. f i ∷ xs)
compare (x ∷ xs) ys (z ∷ zs) us u e = longer x z xs zs u (head_is x z (xs ++ ys) (zs ++ u ∷ us) e) (compare xs ys zs us u (tail_is x z (xs ++ ys) (zs ++ u ∷ us) e))

module _ (m : Meaning) where
  -- Traces.

  abbrev pub mark_in : Told m → MarkOf m
  mark_in t = t.mark

  marks_are : (w : World m) (n : ℕ) (ns : List (NoteOf m)) → map mark_in (map (mark_of m w n) ns) ≡ map (mark m w.event n) ns
  marks_are w n [] = refl
  marks_are w n (x ∷ ns) = ap (λ (ms : List (MarkOf m)). mark m w.event n x ∷ ms) (marks_are w n ns)

  pub trace_after : (w : World m) (n : ℕ) (ns : List (NoteOf m)) → map mark_in (w.told ++ map (mark_of m w n) ns) ≡ trace m w ++ map (mark m w.event n) ns
  trace_after w n ns = map_both mark_in w.told (map (mark_of m w n) ns) ∙ ap (λ (ms : List (MarkOf m)). trace m w ++ ms) (marks_are w n ns)

  abbrev pub Alone : ℕ → Trace m → Type 0
  Alone k ys = (u : MarkOf m) → Has ys u → u.client ≡ k → ⊥

  -- an append ends in a turn as it does in the step
  abbrev pub EndsIn : ℕ → EventOf m → World m → Option AppendEnd → Type 0
  EndsIn k e w x = (x ≡ None) ⊎ (x ≡ ended_in m w e k)

  -- what a step makes of a client
  pub data Stepped (k : ℕ) (e : EventOf m) (w v : World m) : Type 0 where
    Rests : client m v k ≡ client m w k → (ys : Trace m) → trace m v ≡ trace m w ++ ys → Alone k ys → Stepped k e w v
    Turns : (r : Moved m) → (t : Turned m (client m w k) r) → ((x : CommandOf m) → taken_by m (client m w k) r t ≡ Some x → e ≡ Commands k x) → EndsIn k e w (ended_by m (client m w k) r t)
        → client m v k ≡ called m r.now → trace m v ≡ trace m w ++ map (mark m w.event k) r.notes → Stepped k e w v

  abbrev pub WorldBook : World m → Type 0
  WorldBook w = (k : ℕ) → BookOf m k (trace m w) (client m w k)

  abbrev From : ℕ → EventOf m → (c : Client m) (r : Moved m) → Turned m c r → Type 0
  From n e c r t = (x : CommandOf m) → taken_by m c r t ≡ Some x → e ≡ Commands n x

  others_alone : (k event n : ℕ) (ns : List (NoteOf m)) → (n ≡ k → ⊥) → Alone k (map (mark m event n) ns)
  others_alone k event n ns other u i c = let r = has_image (mark m event n) ns u i in other (sym (ap (λ (y : MarkOf m). y.client) r.2) ∙ c)

  turned_step : (e : EventOf m) (w : World m) (n : ℕ) (t : ClientTurn m) (r : Moved m) (x : Turned m (client m w n) r) → From n e (client m w n) r x → EndsIn n e w (ended_by m (client m w n) r x) → t.now ≡ called m r.now → t.notes ≡ r.notes → n < length w.clients
      → (k : ℕ) → Stepped k e w (client_turned m w n t)
  unfolding client_turned
  turned_step e w n t r x from ends now notes less k = by (n == k) refl
    where
      by : (b : Bool) → (n == k) ≡ b → Stepped k e w (client_turned m w n t)
      by true is = subst (λ (j : ℕ). Stepped j e w (client_turned m w n t)) (same_number n k is) (Turns r x from ends (set_same w.clients n t.now (new_client m w.cluster n) less ∙ now) (trace_after w n t.notes ∙ ap (λ (ns : List (NoteOf m)). trace m w ++ map (mark m w.event n) ns) notes))
      by false is = Rests (set_other w.clients n k t.now (new_client m w.cluster k) (λ s. contrary (n == k) is (number_same n k s))) (map (mark m w.event n) t.notes) (trace_after w n t.notes) (others_alone k w.event n t.notes (λ s. contrary (n == k) is (number_same n k s)))

  still : (k : ℕ) (e : EventOf m) (w v : World m) → client m v k ≡ client m w k → trace m v ≡ trace m w → Stepped k e w v
  still k e w v c t = Rests c [] (t ∙ sym (nil_right (trace m w))) (λ u i. absurd i)

  pub declared : (w : World m) (n : NodeId) → n.role ≡ role.Client → runs m w n ≡ true → n.num < length w.clients
  declared w n is on = lt_of n.num (length w.clients) (ap (λ (r : Role). nat_lt n.num (count_of m w r)) (sym is) ∙ (and_both (nat_lt n.num (count_of m w n.role)) (not (has_stopped m w n)) on).0)

  -- each turn as what it makes of the client
  pub commanded_as : (c : Client m) (x : CommandOf m) → (client_command m c x).now ≡ called m (refused_or m c x (refusal m c x)).now
  unfolding client_command
  commanded_as c x = refl

  pub commanded_notes : (c : Client m) (x : CommandOf m) → (client_command m c x).notes ≡ (refused_or m c x (refusal m c x)).notes
  unfolding client_command
  commanded_notes c x = refl

  pub delivered_as : (c : Client m) (p : Packet) → (client_deliver m c p.from p.rid p.msg).now ≡ called m (feed m c c.work p.from p.rid (reply p.msg)).now
  unfolding client_deliver
  delivered_as c p = refl

  pub delivered_notes : (c : Client m) (p : Packet) → (client_deliver m c p.from p.rid p.msg).notes ≡ (feed m c c.work p.from p.rid (reply p.msg)).notes
  unfolding client_deliver
  delivered_notes c p = refl

  -- a tick leaves the books as they are
  pub record TickOf (c : Client m) (t : ClientTurn m) : Type 0 where
    pub makes : Moved m
    pub turned : Turned m c makes
    pub takes : taken_by m c makes turned ≡ None
    pub ends : ended_by m c makes turned ≡ None
    pub now : t.now ≡ called m makes.now
    pub notes : t.notes ≡ makes.notes

  tick_by_of : (c : Client m) (w : Option (Work m)) → TickOf c (tick_by m c w)
  tick_by_of c None = record { makes = moved m c []; turned = Idles (refl, refl, refl) refl refl; takes = refl; ends = refl; now = refl; notes = refl }
  tick_by_of c (Some w) = record { makes = moved m (record c { next = c.next + c.layouts }) []; turned = Idles (refl, refl, refl) refl refl; takes = refl; ends = refl; now = refl; notes = refl }

  pub tick_of : (c : Client m) → TickOf c (client_tick m c)
  unfolding client_tick
  tick_of c = tick_by_of c c.work

  -- Steps.

  from_none : (e : EventOf m) (n : ℕ) (c : Client m) (r : Moved m) (t : Turned m c r) → taken_by m c r t ≡ None → From n e c r t
  from_none e n c r t none x z = absurd (no_some x (sym none ∙ z))

  as_noted : (b : Bool) (k n : ℕ) (y : CommandOf m) (w v : World m) → Stepped k (Commands n y) (noted_if m b w n (client m w n)) v → Stepped k (Commands n y) w v
  as_noted true k n y w v s = s
  as_noted false k n y w v (Rests c ys t a) = Rests c ys t a
  as_noted false k n y w v (Turns r t f g c x) = Turns r t f g c x

  commanded_step : (w : World m) (k : ℕ) (x : CommandOf m) (b : Bool) → runs m w (client_id k) ≡ b → (j : ℕ) → Stepped j (Commands k x) w (commands m b w k x)
  commanded_step w k x false on j = still j (Commands k x) w w refl refl
  commanded_step w k x true on j = by (is_some (client m w k).work)
    where
      from : From k (Commands k x) (client m w k) (refused_or m (client m w k) x (refusal m (client m w k) x)) (Taken x (commanding m (client m w k) x))
      from y z = ap (λ (u : CommandOf m). Commands k u) (same_some x y z)

      by : (b : Bool) → Stepped j (Commands k x) w (client_turned m (noted_if m b w k (client m w k)) k (client_command m (client m w k) x))
      by true = turned_step (Commands k x) w k (client_command m (client m w k) x) (refused_or m (client m w k) x (refusal m (client m w k) x)) (Taken x (commanding m (client m w k) x)) from (inl refl) (commanded_as (client m w k) x) (commanded_notes (client m w k) x) (declared w (client_id k) refl on) j
      by false = as_noted false j k x w (client_turned m (noted_if m false w k (client m w k)) k (client_command m (client m w k) x))
          (turned_step (Commands k x) (noted_if m false w k (client m w k)) k (client_command m (client m w k) x) (refused_or m (client m w k) x (refusal m (client m w k) x)) (Taken x (commanding m (client m w k) x)) from (inl refl) (commanded_as (client m w k) x) (commanded_notes (client m w k) x) (declared w (client_id k) refl on) j)

  suits_in : (w : World m) → WorldBook w → (k : ℕ) (v : Work m) → (client m w k).work ≡ Some v → Suits m v.command (task_in m v.hand)
  suits_in w h k v is = (h k).suits v is

  moved_step : (w : World m) (p : Packet) (i : ℕ) (r : Role) → WorldBook w → (r ≡ role.Client → p.to.num < length w.clients)
      → (r ≡ role.Client → ended_in m w (Deliver i) p.to.num ≡ work_ends m (client m w p.to.num) (client m w p.to.num).work p.from p.rid (reply p.msg)) → (j : ℕ) → Stepped j (Deliver i) w (moves m (handed m w i) p r)
  unfolding unit_moves layout_moves seqr_moves
  moved_step w p i role.Unit h less ends j = still j (Deliver i) w _ refl refl
  moved_step w p i role.Layout h less ends j = still j (Deliver i) w _ refl refl
  moved_step w p i role.Seqr h less ends j = still j (Deliver i) w _ refl refl
  moved_step w p i role.Client h less ends j = rebase (turned_step (Deliver i) (handed m w i) p.to.num (client_deliver m (client m w p.to.num) p.from p.rid p.msg) (feed m (client m w p.to.num) (client m w p.to.num).work p.from p.rid (reply p.msg)) d.turned (from_none (Deliver i) p.to.num (client m w p.to.num) _ d.turned d.takes) (inr (d.ends ∙ sym (ends refl))) (delivered_as (client m w p.to.num) p) (delivered_notes (client m w p.to.num) p) (less refl) j)
    where
      d : Delivered m (client m w p.to.num) (feed m (client m w p.to.num) (client m w p.to.num).work p.from p.rid (reply p.msg)) (work_ends m (client m w p.to.num) (client m w p.to.num).work p.from p.rid (reply p.msg))
      d = delivered m (client m w p.to.num) p.from p.rid p.msg (suits_in w h p.to.num)

      rebase : {v : World m} → Stepped j (Deliver i) (handed m w i) v → Stepped j (Deliver i) w v
      rebase (Rests c ys t a) = Rests c ys t a
      rebase (Turns r t f g c x) = Turns r t f g c x

  counted_step : (k : ℕ) (e : EventOf m) (w v : World m) → Stepped k e w v → Stepped k e w (counted m v)
  counted_step k e w v (Rests c ys t a) = Rests c ys t a
  counted_step k e w v (Turns r t f g c x) = Turns r t f g c x

  pub step : (w : World m) (e : EventOf m) → WorldBook w → (k : ℕ) → Stepped k e w (happens m w e)
  unfolding happens
  step w (Commands k x) h j = counted_step j (Commands k x) w (commands m (runs m w (client_id k)) w k x) (commanded_step w k x (runs m w (client_id k)) refl j)
  step w (Deliver i) h j = counted_step j (Deliver i) w (delivers m w i (slice_get w.packets i)) (by (slice_get w.packets i) refl)
    where
      comes_step : (p : Packet) → slice_get w.packets i ≡ Some p → (b : Bool) → runs m w p.to ≡ b → Stepped j (Deliver i) w (comes m b (handed m w i) p)
      comes_step p is true on = moved_step w p i p.to.role h (λ c. declared w p.to c on) (λ c. ended_here m w i p is c on) j
      comes_step p is false on = still j (Deliver i) w (handed m w i) refl refl

      by : (p : Option Packet) → slice_get w.packets i ≡ p → Stepped j (Deliver i) w (delivers m w i p)
      by None is = still j (Deliver i) w w refl refl
      by (Some p) is = comes_step p is (runs m w p.to) refl
  step w (Lose i) h j = still j (Lose i) w _ refl refl
  step w (Tick n) h j = counted_step j (Tick n) w (ticks_if m (runs m w n) w n) (by (runs m w n) refl)
    where
      ticks_step : (r : Role) → n.role ≡ r → runs m w n ≡ true → Stepped j (Tick n) w (ticks m w n.num r)
      ticks_step role.Unit is on = still j (Tick n) w w refl refl
      ticks_step role.Layout is on = still j (Tick n) w w refl refl
      ticks_step role.Seqr is on = still j (Tick n) w _ refl refl
      ticks_step role.Client is on =
          let t = tick_of (client m w n.num) in
          turned_step (Tick n) w n.num (client_tick m (client m w n.num)) t.makes t.turned (from_none (Tick n) n.num (client m w n.num) t.makes t.turned t.takes) (inl t.ends) t.now t.notes (declared w n is on) j

      by : (b : Bool) → runs m w n ≡ b → Stepped j (Tick n) w (ticks_if m b w n)
      by true on = ticks_step n.role refl on
      by false on = still j (Tick n) w w refl refl
  step w (Stop n) h j = counted_step j (Stop n) w (stops_if m (runs m w n) w n) (by (runs m w n))
    where
      by : (b : Bool) → Stepped j (Stop n) w (stops_if m b w n)
      by true = still j (Stop n) w _ refl refl
      by false = still j (Stop n) w w refl refl

  -- Books through a step.

  book_beside : (k : ℕ) (tr ys : Trace m) (c : Client m) → Alone k ys → BookOf m k tr c → BookOf m k (tr ++ ys) c
  book_beside k tr ys c alone h = record {
    num_is = h.num_is;
    below = λ u i at. by u at (has_either tr ys u i);
    number = h.number;
    snap = λ t s is at. let x = h.snap t s is at in record { oid = x.oid; ask = x.ask; answer = x.answer; tells = tells_on m tr ys k t.number (told.Asked x.oid x.ask s x.answer) x.tells };
    first = h.first;
    ending = h.ending;
    suits = h.suits;
    drafts = λ w is. draft_on (task_in m w.hand) (h.drafts w is);
  }
    where
      by : (u : MarkOf m) → u.client ≡ k → Has tr u ⊎ Has ys u → u.tx ≤ c.begun
      by u at (inl i) = h.below u i at
      by u at (inr i) = absurd (alone u i at)

      draft_on : (t : Task m) → DraftOf m k tr c.tx c.begun t → DraftOf m k (tr ++ ys) c.tx c.begun t
      draft_on (Appending a y) x = draft_more m k 0 y tr ys c.tx c.tx c.begun c.begun a.draft a.draft refl refl refl x
      draft_on t x = tt

  pub stepped_book : (k : ℕ) (e : EventOf m) (w v : World m) → BookOf m k (trace m w) (client m w k) → Stepped k e w v → BookOf m k (trace m v) (client m v k)
  stepped_book k e w v h (Rests c ys t a) = subst (λ (d : Client m). BookOf m k (trace m v) d) (sym c) (subst (λ (tr : Trace m). BookOf m k tr (client m w k)) (sym t) (book_beside k (trace m w) ys (client m w k) a h))
  stepped_book k e w v h (Turns r t f g c x) = subst (λ (d : Client m). BookOf m k (trace m v) d) (sym c) (subst (λ (tr : Trace m). BookOf m k tr (called m r.now)) (sym x) (turned m k w.event (trace m w) (client m w k) h r t))

  pub step_book : (w : World m) (e : EventOf m) → WorldBook w → WorldBook (happens m w e)
  step_book w e h k = stepped_book k e w (happens m w e) (h k) (step w e h k)

  pub run_book : (ms : Moves m) (w : World m) → WorldBook w → WorldBook (run m ms w)
  unfolding run
  run_book [] w h = h
  run_book (Next ∷ ms) w h = run_book ms (next_event m w) h
  run_book (Takes e ∷ ms) w h = run_book ms (happens m w e) (step_book w e h)

  new_book : (h : Header) (n : ℕ) → BookOf m n [] (new_client m h n)
  unfolding new_client
  new_book h n = record {
    num_is = refl;
    below = λ u i. absurd i;
    number = λ t is. absurd (no_some t is);
    snap = λ t s is. absurd (no_some t is);
    first = λ w t is. absurd (no_some w is);
    ending = λ w t is. absurd (no_some w is);
    suits = λ w is. absurd (no_some w is);
    drafts = λ w is. absurd (no_some w is);
  }

  -- the clients of a header are numbered
  each_new : (h : Header) (n first i k : ℕ) → k ≡ first + i → BookOf m k [] (slice_index_or (map (new_client m h) (numbers n first)) i (new_client m h k))
  each_new h zero first i k e = new_book h k
  each_new h (suc n) first zero k e = let at : k ≡ first = omega (arith, e) in subst (λ (j : ℕ). BookOf m k [] (new_client m h j)) at (new_book h k)
  each_new h (suc n) first (suc i) k e = each_new h n (first + 1) i k (omega (arith, e))

  pub start_book : (h : Header) → WorldBook (start m h)
  unfolding start
  start_book h k = each_new h h.clients 0 k k (omega arith)

  -- Along moves.

  pub run_both : (xs ys : Moves m) (w : World m) → run m (xs ++ ys) w ≡ run m ys (run m xs w)
  unfolding run
  run_both [] ys w = refl
  run_both (Next ∷ xs) ys w = run_both xs ys (next_event m w)
  run_both (Takes e ∷ xs) ys w = run_both xs ys (happens m w e)

  pub run_next : (e : EventOf m) (ms : Moves m) (w : World m) → run m (Takes e ∷ ms) w ≡ run m ms (happens m w e)
  unfolding run
  run_next e ms w = refl

  -- replies are only added
  abbrev pub Grown : World m → World m → Type 0
  Grown w v = (ys : Trace m) × (trace m v ≡ trace m w ++ ys)

  pub grown_by : (k : ℕ) (e : EventOf m) (w v : World m) → Stepped k e w v → Grown w v
  grown_by k e w v (Rests c ys t a) = (ys, t)
  grown_by k e w v (Turns r t f g c x) = (map (mark m w.event k) r.notes, x)

  grown_on : (u v w : World m) → Grown u v → Grown v w → Grown u w
  grown_on u v w a b = (a.0 ++ b.0, b.1 ∙ (ap (λ (tr : Trace m). tr ++ b.0) a.1 ∙ regroup (trace m u) a.0 b.0))

  pub run_grows : (ms : Moves m) (w : World m) → WorldBook w → Grown w (run m ms w)
  unfolding run
  run_grows [] w h = ([], sym (nil_right (trace m w)))
  run_grows (Next ∷ ms) w h = run_grows ms (next_event m w) h
  run_grows (Takes e ∷ ms) w h = grown_on w (happens m w e) (run m ms (happens m w e)) (grown_by 0 e w (happens m w e) (step w e h 0)) (run_grows ms (happens m w e) (step_book w e h))

  -- transactions are counted upwards
  stepped_begun : (k : ℕ) (e : EventOf m) (w v : World m) → Stepped k e w v → (client m w k).begun ≤ (client m v k).begun
  stepped_begun k e w v (Rests c ys t a) = let b = ap (λ (d : Client m). d.begun) c in omega (arith, b)
  stepped_begun k e w v (Turns r t f g c x) = let b = ap (λ (d : Client m). d.begun) c in let le = begun_turned m (client m w k) r t in omega (arith, b, le)

  pub run_begun : (k : ℕ) (ms : Moves m) (w : World m) → WorldBook w → (client m w k).begun ≤ (client m (run m ms w) k).begun
  unfolding run
  run_begun k [] w h = omega arith
  run_begun k (Next ∷ ms) w h = run_begun k ms (next_event m w) h
  run_begun k (Takes e ∷ ms) w h = let a = stepped_begun k e w (happens m w e) (step w e h k) in let b = run_begun k ms (happens m w e) (step_book w e h) in omega (arith, a, b)

  -- a number that is of no open transaction
  pub only_stepped : (k : ℕ) (e : EventOf m) (w v : World m) (n : ℕ) (Q : Entry → Type 0) → BookOf m k (trace m w) (client m w k) → Only m n Q (client m w k) → Stepped k e w v → Only m n Q (client m v k)
  only_stepped k e w v n Q h o (Rests c ys t a) = subst (λ (d : Client m). Only m n Q d) (sym c) o
  only_stepped k e w v n Q h o (Turns r t f g c x) = subst (λ (d : Client m). Only m n Q d) (sym c) (only_turned m k (trace m w) (client m w k) h n Q o r t)

  pub run_only : (k n : ℕ) (Q : Entry → Type 0) (ms : Moves m) (w : World m) → WorldBook w → Only m n Q (client m w k) → Only m n Q (client m (run m ms w) k)
  unfolding run
  run_only k n Q [] w h o = o
  run_only k n Q (Next ∷ ms) w h o = run_only k n Q ms (next_event m w) h o
  run_only k n Q (Takes e ∷ ms) w h o = run_only k n Q ms (happens m w e) (step_book w e h) (only_stepped k e w (happens m w e) n Q (h k) o (step w e h k))

  -- a transaction whose end waits, where it isn't refused for want of room
  abbrev pub NeverFull : ℕ → ℕ → Trace m → Type 0
  NeverFull k n ys = (u : MarkOf m) (l : ℕ) → Has ys u → u.client ≡ k → u.tx ≡ n → u.what ≡ told.Refused (cause.LogFull l) → ⊥

  abbrev pub HeldOr : ℕ → Tx → World m → Type 0
  HeldOr k t w = Held m t (client m w k) ⊎ Only m t.number (None' m) (client m w k)

  pub has_marked : (event k : ℕ) (ns : List (NoteOf m)) (n : NoteOf m) → Has ns n → Has (map (mark m event k) ns) (mark m event k n)
  has_marked event k [] n i = absurd i
  has_marked event k (x ∷ ns) n (inl e) = inl (ap (λ (y : NoteOf m). mark m event k y) e)
  has_marked event k (x ∷ ns) n (inr i) = inr (has_marked event k ns n i)

  stepped_held : (k : ℕ) (e : EventOf m) (w v : World m) (t : Tx) (ys : Trace m) → WorldBook w → trace m v ≡ trace m w ++ ys → NeverFull k t.number ys → Stepped k e w v → HeldOr k t w → HeldOr k t v
  stepped_held k e w v t ys h grown full s (inr o) = inr (only_stepped k e w v t.number (None' m) (h k) o s)
  stepped_held k e w v t ys h grown full (Rests c zs x a) (inl held) = inl (subst (λ (d : Client m). Held m t d) (sym c) held)
  stepped_held k e w v t ys h grown full (Turns r y f g c x) (inl held) = by (held_turned m k (trace m w) (client m w k) (h k) t held r never y)
    where
      same : ys ≡ map (mark m w.event k) r.notes
      same = cancel (trace m w) ys (map (mark m w.event k) r.notes) (sym grown ∙ x)

      never : NotFull m t.number r.notes
      never l i = full (mark m w.event k (note m t.number (told.Refused (cause.LogFull l)))) l (subst (λ (zs : Trace m). Has zs (mark m w.event k (note m t.number (told.Refused (cause.LogFull l))))) (sym same) (has_marked w.event k r.notes (note m t.number (told.Refused (cause.LogFull l))) i)) refl refl refl

      by : Held m t r.now ⊎ Only m t.number (None' m) r.now → HeldOr k t v
      by (inl z) = inl (subst (λ (d : Client m). Held m t d) (sym c) z)
      by (inr z) = inr (subst (λ (d : Client m). Only m t.number (None' m) d) (sym c) z)

  pub run_held : (k : ℕ) (t : Tx) (ms : Moves m) (w : World m) (ys : Trace m) → WorldBook w → trace m (run m ms w) ≡ trace m w ++ ys → NeverFull k t.number ys → HeldOr k t w → HeldOr k t (run m ms w)
  unfolding run grown_by grown_on
  run_held k t [] w ys h grown full o = o
  run_held k t (Next ∷ ms) w ys h grown full o = run_held k t ms (next_event m w) ys h grown full o
  run_held k t (Takes e ∷ ms) w ys h grown full o = run_held k t ms (happens m w e) rest.0 (step_book w e h) rest.1 later now
    where
      one : Grown w (happens m w e)
      one = grown_by 0 e w (happens m w e) (step w e h 0)

      rest : Grown (happens m w e) (run m ms (happens m w e))
      rest = run_grows ms (happens m w e) (step_book w e h)

      split : ys ≡ one.0 ++ rest.0
      split = cancel (trace m w) ys (one.0 ++ rest.0) (sym grown ∙ (grown_on w (happens m w e) (run m ms (happens m w e)) one rest).1)

      later : NeverFull k t.number rest.0
      later u l i = full u l (subst (λ (zs : Trace m). Has zs u) (sym split) (has_right one.0 rest.0 u i))

      first : NeverFull k t.number one.0
      first u l i = full u l (subst (λ (zs : Trace m). Has zs u) (sym split) (has_left one.0 rest.0 u i))

      now : HeldOr k t (happens m w e)
      now = stepped_held k e w (happens m w e) t one.0 h one.1 first (step w e h k) o

  -- each mark that is under way was asked for
  abbrev pub Asked : Moves m → World m → Type 0
  Asked done w = (k n : ℕ) (o : Oid) (v : Work m) → (client m w k).work ≡ Some v → v.command ≡ cmd.Forget o n → Has done (Takes (Commands k (cmd.Forget o n)))

  stepped_asked : (e : EventOf m) (w v : World m) (done : Moves m) → ((k : ℕ) → Stepped k e w v) → Asked done w → Asked (done ++ Takes e ∷ []) v
  stepped_asked e w v done steps h k n o x is forget = by (steps k)
    where
      old : Has done (Takes (Commands k (cmd.Forget o n))) → Has (done ++ Takes e ∷ []) (Takes (Commands k (cmd.Forget o n)))
      old i = has_left done (Takes e ∷ []) (Takes (Commands k (cmd.Forget o n))) i

      not_end : ◌≡◌ {A = CommandOf m} (cmd.Forget o n) cmd.End → ⊥
      not_end z = cc

      by : Stepped k e w v → Has (done ++ Takes e ∷ []) (Takes (Commands k (cmd.Forget o n)))
      by (Rests c ys t a) = old (h k n o x (ap (λ (d : Client m). d.work) (sym c) ∙ is) forget)
      by (Turns r t f g c y) = from (came m (client m w k) r t x (ap (λ (d : Client m). d.work) (sym c) ∙ is))
        where
          from : Came m (client m w k) r t x → Has (done ++ Takes e ∷ []) (Takes (Commands k (cmd.Forget o n)))
          from (Waited u has same) = old (h k n o u has (sym same ∙ forget))
          from (Given z) = has_right done (Takes e ∷ []) (Takes (Commands k (cmd.Forget o n))) (inl (ap (λ (d : EventOf m). Takes d) (sym (f x.command z ∙ ap (λ (q : CommandOf m). Commands k q) forget))))
          from (Ends' z) = absurd (not_end (sym forget ∙ z))

  next_asked : (w : World m) (done : Moves m) → Asked done w → Asked (done ++ Next ∷ []) (next_event m w)
  next_asked w done h k n o x is forget = has_left done (Next ∷ []) (Takes (Commands k (cmd.Forget o n))) (h k n o x is forget)

  pub run_asked : (ms done : Moves m) (w : World m) → WorldBook w → Asked done w → Asked (done ++ ms) (run m ms w)
  unfolding run
  run_asked [] done w h a = subst (λ (xs : Moves m). Asked xs w) (sym (nil_right done)) a
  run_asked (Next ∷ ms) done w h a = subst (λ (xs : Moves m). Asked xs (run m ms (next_event m w))) (regroup done (Next ∷ []) ms) (run_asked ms (done ++ Next ∷ []) (next_event m w) h (next_asked w done a))
  run_asked (Takes e ∷ ms) done w h a = subst (λ (xs : Moves m). Asked xs (run m ms (happens m w e))) (regroup done (Takes e ∷ []) ms) (run_asked ms (done ++ Takes e ∷ []) (happens m w e) (step_book w e h) (stepped_asked e w (happens m w e) done (step w e h) a))

  none_asked : (h : Header) → Asked [] (start m h)
  unfolding start new_client
  none_asked h k n o v is forget = absurd (idle h.clients 0 k is)
    where
      idle : (j first i : ℕ) → (slice_index_or (map (new_client m h) (numbers j first)) i (new_client m h k)).work ≡ Some v → ⊥
      idle zero first i z = no_some v z
      idle (suc j) first zero z = no_some v z
      idle (suc j) first (suc i) z = idle j (first + 1) i z

  pub asked_in : (h : Header) (ms : Moves m) → Asked ms (run m ms (start m h))
  asked_in h ms = run_asked ms [] (start m h) (start_book h) (none_asked h)
