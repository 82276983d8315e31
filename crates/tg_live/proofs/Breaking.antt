-- What was done with the link where a live run was broken off.
use Rattle.std.proofs.Common.{◌≡◌, ◌∙◌, ◌==◌, ◌<◌, ◌≤◌, ◌⊎◌, ℕ, zero, suc, Bool, true, false, List, [], ◌∷◌, ◌++◌, drop, take, length, Option, Some, None, Result, Ok, Err, refl, sym, ap, subst, append_assoc, arith, ⊎_elim}
use Rattle.std.specs.Prelude.{OnErr}
use Rattle.std.proofs.lemmas.List.{append-nil, length-take-le, map-append, drop-append-le, take-append-drop}
use Rattle.tg_base.specs.declared.fault.Which.{Which}
use Rattle.tg_base.specs.declared.fault.Which.TheVariants as which
use Rattle.tg_base.specs.declared.ids.NodeId.{NodeId}
use Rattle.tg_base.specs.declared.packet.Packet.{Packet}
use Rattle.tg_io.specs.Acts.{Act, Comes, Goes}
use Rattle.tg_io.specs.Bytes.{Grows}
use Rattle.tg_io.specs.declared.link.Arrival.{Arrival}
use Rattle.tg_io.proofs.Bytes.{grows_none}
use Rattle.tg_model.specs.declared.command.Event.TheVariants as event
use Rattle.tg_protocol.specs.Worlds.{limit_of, runs, nodes}
use Rattle.tg_any.specs.AllKinds.{all_kinds}
use Rattle.tg_replay.specs.Runs.{line_on}
use Rattle.tg_script.specs.declared.line.Line.{Line}
use Rattle.tg_script.specs.declared.line.Line.TheVariants as line
use Rattle.tg_live.specs.Breaks.{GrowsFront, Broken}
use Rattle.tg_live.specs.Sends.{all_gone, sending, AreFit}
use Rattle.tg_live.specs.Lives.{Answer, Live, LiveRan, goes, stops, recorded, recorded_by, came, heard, received, onward, ticked, Then, Makes, IsDrained, IsRounds}
use Rattle.tg_live.proofs.Growing.{Begins}
use Rattle.tg_live.proofs.Packets.{grows_by, first_of, no_fewer}
use Rattle.tg_live.proofs.Parts.{follows_on, follows_not}
use Rattle.tg_live.proofs.Ticking.{after_ticks, ticked_runs}

pub on_err : {X E P : Type 0} (r : Result X E) → P → OnErr r P
on_err (Ok x) h = tt
on_err (Err e) h = h

-- Fronts.

pub front_none : (before : Option (List Act)) (whole : List Act) → GrowsFront before whole before
front_none before whole = ([], whole, refl, grows_none before)

pub front_all : (before after : Option (List Act)) (whole : List Act) → Grows before whole after → GrowsFront before whole after
front_all before after whole h = (whole, [], sym (append-nil whole), h)

-- a front of what goes on
pub front_wider : (before after : Option (List Act)) (whole more all : List Act) → all ≡ whole ++ more → GrowsFront before whole after → GrowsFront before all after
front_wider before after whole more all e (done, rest, cut, grown) =
    (done, rest ++ more, e ∙ ap (λ (l : List Act). l ++ more) cut ∙ append_assoc done rest more, grown)

-- a part, and then a front of the rest
pub front_later : (before now after : Option (List Act)) (whole more all : List Act) → all ≡ whole ++ more → Grows before whole now → GrowsFront now more after → GrowsFront before all after
front_later before now after whole more all e grown (done, rest, cut, then_grown) = (
  whole ++ done,
  rest,
  e ∙ ap (λ (l : List Act). whole ++ l) cut ∙ sym (append_assoc whole done rest),
  grows_by before now after whole done grown then_grown,
)

-- of the packets of a step those before the one that failed have gone
pub front_sent : (ps : List Packet) (from n : ℕ) (before now after : Option (List Act)) → from ≤ n → n ≤ length ps → Grows before (all_gone (drop from (take n ps))) now → after ≡ now → GrowsFront before (all_gone (drop from ps)) after
front_sent ps from n before now after le few grown same =
    let long : length (take n ps) ≡ n = length-take-le n ps few in
    let here : from ≤ length (take n ps) = omega (arith, long, le) in
    let cut : drop from ps ≡ drop from (take n ps) ++ drop n ps = ap (drop from) (sym (take-append-drop n ps)) ∙ drop-append-le from (take n ps) (drop n ps) here in (
      all_gone (drop from (take n ps)),
      all_gone (drop n ps),
      ap all_gone cut ∙ map-append (λ p. Goes (sending p)) (drop from (take n ps)) (drop n ps),
      subst (λ (o : Option (List Act)). Grows before (all_gone (drop from (take n ps))) o) (sym same) grown,
    )

-- and of a line's steps, where their packets follow those before
pub front_made : (ps qs : List Packet) (from : ℕ) (before after : Option (List Act)) → Begins ps qs → from ≡ length ps → AreFit ps → (from ≤ length qs → AreFit (take from qs) → GrowsFront before (all_gone (drop from qs)) after) → GrowsFront before (all_gone (drop (length ps) qs)) after
front_made ps qs from before after b at fit sent =
    let le : from ≤ length qs = omega (arith, no_fewer ps qs b, at) in
    let first : take from qs ≡ ps = ap (λ k. take k qs) at ∙ first_of ps qs b in
    subst (λ (k : ℕ). GrowsFront before (all_gone (drop k qs)) after) at (sent le (subst AreFit (sym first) fit))

-- A later live run, which has done more.

pub record Later (l m : Live) : Type 0 where
  pub more : List Act
  pub whole : m.acts ≡ l.acts ++ more

later_none : (l : Live) → Later l l
later_none l = record { more = []; whole = sym (append-nil l.acts) }

later_both : (l m n : Live) → Later l m → Later m n → Later l n
later_both l m n a b = record { more = a.more ++ b.more; whole = b.whole ∙ ap (λ (x : List Act). x ++ b.more) a.whole ∙ append_assoc l.acts a.more b.more }

recorded_later : (l : Live) (x : Line) → Later l (recorded l x).live
unfolding recorded
recorded_later l x = at (limit_of all_kinds l.world)
  where
    at : (o : Option Which) → Later l (recorded_by o l x).live
    at (Some y) = later_none l
    at None = record { more = all_gone (drop (length l.world.packets) (line_on l.world x).world.packets); whole = refl }

onward_later : (l : Live) (r : LiveRan) (f : Live → LiveRan) → Later l r.live → Later r.live (f r.live).live → Later l (onward r f).live
onward_later l r f a b = at r.stopped
  where
    at : (o : Option Which) → Later l (elim o as (λ _. LiveRan) [ Some x ↦ r | None ↦ f r.live ]).live
    at None = later_both l r.live (f r.live).live a b
    at (Some x) = a

pub ticked_later : (ns : List NodeId) (l : Live) → Later l (ticked ns l).live
unfolding ticked
ticked_later [] l = later_none l
ticked_later (n ∷ ns) l = at (runs all_kinds l.world n) (ticked_later ns l) (ticked_later ns (recorded l (line.Event (event.Tick n))).live)
  where
    at : (b : Bool) → Later l (ticked ns l).live → Later (recorded l (line.Event (event.Tick n))).live (ticked ns (recorded l (line.Event (event.Tick n))).live).live
        → Later l (elim b as (λ _. LiveRan) [ false ↦ ticked ns l | true ↦ onward (recorded l (line.Event (event.Tick n))) (λ k. ticked ns k) ]).live
    at false over next = over
    at true over next = onward_later l (recorded l (line.Event (event.Tick n))) (λ k. ticked ns k) (recorded_later l (line.Event (event.Tick n))) next

-- the first of the ticks was broken off
pub ticked_in : (before after : Option (List Act)) (all : List NodeId) (n : NodeId) (ns : List NodeId) (l : Live) → all ≡ n ∷ ns → runs all_kinds l.world n ≡ true → GrowsFront before (recorded l (line.Event (event.Tick n))).live.acts after → GrowsFront before (ticked all l).live.acts after
ticked_in before after all n ns l e h front =
    let first = recorded l (line.Event (event.Tick n)) in
    let on = onward_later first.live first (λ k. ticked ns k) (later_none first.live) (ticked_later ns first.live) in
    front_wider before after first.live.acts on.more (ticked all l).live.acts (ap (λ (r : LiveRan). r.live.acts) (ticked_runs all n ns l e h) ∙ on.whole) front

-- Parts that are made to their end, where nothing more is at hand.

-- a part of a run that ends after it has come so far
pub record Ends (part : List Answer → Live → LiveRan → Type 0) (l m : Live) : Type 0 where
  pub answers : List Answer
  pub end : LiveRan
  pub is : part answers l end
  pub later : Later m end.live

pub broken_ends : (part : List Answer → Live → LiveRan → Type 0) (before after : Option (List Act)) (l m : Live) → GrowsFront before m.acts after → Ends part l m → Broken part before after l
broken_ends part before after l m front e = record { answers = e.answers; end = e.end; is = e.is; acts = front_wider before after m.acts e.later.more e.end.live.acts e.later.whole front }

few_or_many : (n : ℕ) → (n < 1000000) ⊎ (1000000 ≤ n)
few_or_many n = grind arith

drain_ends : (l : Live) → Ends IsDrained l l
drain_ends l = ⊎_elim
    (λ (few : l.received < 1000000). record { answers = None ∷ []; end = goes (heard l None); is = (few, refl, refl); later = record { more = Comes None ∷ []; whole = refl } })
    (λ (many : 1000000 ≤ l.received). record { answers = []; end = stops l which.Datagrams; is = (many, refl); later = later_none l })
    (few_or_many l.received)

-- one part has come to its end, and another would come to its own
then_ends : (part next : List Answer → Live → LiveRan → Type 0) (taken : List Answer) (l : Live) (mid : LiveRan) → part taken l mid → ((m : Live) → Ends next m m) → Ends (Then part next) l mid.live
then_ends part next taken l mid is go = at mid.stopped refl
  where
    at : (o : Option Which) → mid.stopped ≡ o → Ends (Then part next) l mid.live
    at (Some x) e = record {
      answers = taken;
      end = mid;
      is = record { taken = taken; rest = []; dealt = sym (append-nil taken); middle = mid; before = is; after = follows_not mid.stopped x mid (next [] mid.live mid) e };
      later = later_none mid.live;
    }
    at None e =
        let n = go mid.live in
        record {
          answers = taken ++ n.answers;
          end = n.end;
          is = record { taken = taken; rest = n.answers; dealt = refl; middle = mid; before = is; after = follows_on mid.stopped mid n.answers n.end (next n.answers mid.live n.end) e n.is };
          later = n.later;
        }

-- the first part was broken off
pub broken_first : (part next : List Answer → Live → LiveRan → Type 0) (before after : Option (List Act)) (l : Live) → Broken part before after l → ((m : Live) → Ends next m m) → Broken (Then part next) before after l
broken_first part next before after l b go = broken_ends (Then part next) before after l b.end.live b.acts (then_ends part next b.answers l b.end b.is go)

-- the second was
pub broken_second : (part next : List Answer → Live → LiveRan → Type 0) (before after : Option (List Act)) (l : Live) (taken : List Answer) (mid : LiveRan) → part taken l mid → mid.stopped ≡ None → Broken next before after mid.live → Broken (Then part next) before after l
broken_second part next before after l taken mid is on b = record {
  answers = taken ++ b.answers;
  end = b.end;
  is = record { taken = taken; rest = b.answers; dealt = refl; middle = mid; before = is; after = follows_on mid.stopped mid b.answers b.end (next b.answers mid.live b.end) on b.is };
  acts = b.acts;
}

pub broken_alone : (f : Live → LiveRan) (before after : Option (List Act)) (l : Live) → GrowsFront before (f l).live.acts after → Broken (Makes f) before after l
broken_alone f before after l front = record { answers = []; end = f l; is = (refl, refl); acts = front }

pub broken_as : (part other : List Answer → Live → LiveRan → Type 0) (before after : Option (List Act)) (l : Live) → ((ans : List Answer) (end : LiveRan) → part ans l end → other ans l end) → Broken part before after l → Broken other before after l
broken_as part other before after l f b = record { answers = b.answers; end = b.end; is = f b.answers b.end b.is; acts = b.acts }

-- Drains.

-- what follows a drain so far ends it
pub record DrainsTo (l m : Live) : Type 0 where
  pub answers : List Answer
  pub more : (rest : List Answer) (end : LiveRan) → IsDrained rest m end → IsDrained (answers ++ rest) l end

-- nothing more was done
pub drain_broken : (before after : Option (List Act)) (l m : Live) → DrainsTo l m → Grows before m.acts after → Broken IsDrained before after l
drain_broken before after l m d h =
    let e = drain_ends m in
    broken_ends IsDrained before after l m (front_all before after m.acts h) (record { answers = d.answers ++ e.answers; end = e.end; is = d.more e.answers e.end e.is; later = e.later })

-- one more came, and its packets went out in part
pub drain_broken_in : (before after : Option (List Act)) (l m : Live) (a : Arrival) → DrainsTo l m → m.received < 1000000 → GrowsFront before (came (received m a) a.to a.datagram).live.acts after → Broken IsDrained before after l
drain_broken_in before after l m a d few front = broken_ends IsDrained before after l (came (received m a) a.to a.datagram).live front (at (came (received m a) a.to a.datagram).stopped refl)
  where
    at : (o : Option Which) → (came (received m a) a.to a.datagram).stopped ≡ o → Ends IsDrained l (came (received m a) a.to a.datagram).live
    at (Some x) e = record {
      answers = d.answers ++ Some a ∷ [];
      end = came (received m a) a.to a.datagram;
      is = d.more (Some a ∷ []) (came (received m a) a.to a.datagram)
          (few, follows_not _ x (came (received m a) a.to a.datagram) (IsDrained [] (came (received m a) a.to a.datagram).live (came (received m a) a.to a.datagram)) e);
      later = later_none (came (received m a) a.to a.datagram).live;
    }
    at None e =
        let n = drain_ends (came (received m a) a.to a.datagram).live in
        record {
          answers = d.answers ++ Some a ∷ n.answers;
          end = n.end;
          is = d.more (Some a ∷ n.answers) n.end (few, follows_on _ _ n.answers n.end (IsDrained n.answers (came (received m a) a.to a.datagram).live n.end) e n.is);
          later = n.later;
        }

-- Rounds.

module _ (n : ℕ) (l m : Live) where
  at_last : (ans : List Answer) (end : LiveRan) → (length m.world.packets == length l.world.packets) ≡ true → IsDrained ans m end → after_ticks n l ans m end
  at_last ans end e d = subst (λ (b : Bool). elim b as (λ _. Type 0) [ true ↦ IsDrained ans m end | false ↦ Then IsDrained (IsRounds n) ans m end ]) (sym e) d

  at_more : (ans : List Answer) (end : LiveRan) → (length m.world.packets == length l.world.packets) ≡ false → Then IsDrained (IsRounds n) ans m end → after_ticks n l ans m end
  at_more ans end e d = subst (λ (b : Bool). elim b as (λ _. Type 0) [ true ↦ IsDrained ans m end | false ↦ Then IsDrained (IsRounds n) ans m end ]) (sym e) d

  ticks_ends : ((k : Live) → Ends (IsRounds n) k k) → Ends (after_ticks n l) m m
  ticks_ends go = at (length m.world.packets == length l.world.packets) refl
    where
      at : (b : Bool) → (length m.world.packets == length l.world.packets) ≡ b → Ends (after_ticks n l) m m
      at true e = let d = drain_ends m in record { answers = d.answers; end = d.end; is = at_last d.answers d.end e d.is; later = d.later }
      at false e =
          let d = drain_ends m in
          let t = then_ends IsDrained (IsRounds n) d.answers m d.end d.is go in
          record { answers = t.answers; end = t.end; is = at_more t.answers t.end e t.is; later = later_both m d.end.live t.end.live d.later t.later }

  -- the drain after the ticks was broken off
  ticks_broken : (before after : Option (List Act)) → ((k : Live) → Ends (IsRounds n) k k) → Broken IsDrained before after m → Broken (after_ticks n l) before after m
  ticks_broken before after go b = at (length m.world.packets == length l.world.packets) refl
    where
      at : (c : Bool) → (length m.world.packets == length l.world.packets) ≡ c → Broken (after_ticks n l) before after m
      at true e = broken_as IsDrained (after_ticks n l) before after m (λ ans end d. at_last ans end e d) b
      at false e = broken_as (Then IsDrained (IsRounds n)) (after_ticks n l) before after m (λ ans end d. at_more ans end e d) (broken_first IsDrained (IsRounds n) before after m b go)

  -- and so were the rounds after that
  more_broken : (before after : Option (List Act)) (taken : List Answer) (mid : LiveRan) → (length m.world.packets == length l.world.packets) ≡ false → IsDrained taken m mid → mid.stopped ≡ None → Broken (IsRounds n) before after mid.live → Broken (after_ticks n l) before after m
  more_broken before after taken mid e d on b =
      broken_as (Then IsDrained (IsRounds n)) (after_ticks n l) before after m (λ ans end t. at_more ans end e t) (broken_second IsDrained (IsRounds n) before after m taken mid d on b)

abbrev pub Ticks : Live → List Answer → Live → LiveRan → Type 0
Ticks l = Makes (ticked (nodes all_kinds l.world))

pub rounds_end : (n : ℕ) (l : Live) → Ends (IsRounds n) l l
rounds_end zero l = record { answers = []; end = goes l; is = (refl, refl); later = later_none l }
rounds_end (suc n) l =
    let ticks = ticked (nodes all_kinds l.world) l in
    let e = then_ends (Ticks l) (after_ticks n l) [] l ticks (refl, refl) (λ m. ticks_ends n l m (λ k. rounds_end n k)) in
    record { answers = e.answers; end = e.end; is = e.is; later = later_both l ticks.live e.end.live (ticked_later (nodes all_kinds l.world) l) e.later }

-- rounds that were broken off before the first tick
pub rounds_broken : (left : ℕ) (before after : Option (List Act)) (l : Live) → Grows before l.acts after → Broken (IsRounds left) before after l
rounds_broken left before after l h = broken_ends (IsRounds left) before after l l (front_all before after l.acts h) (rounds_end left l)

module _ (left n : ℕ) (e : left ≡ suc n) (before after : Option (List Act)) (l : Live) where
  round_broken : Broken (Then (Ticks l) (after_ticks n l)) before after l → Broken (IsRounds left) before after l
  round_broken b = subst (λ (k : ℕ). Broken (IsRounds k) before after l) (sym e) (broken_as (Then (Ticks l) (after_ticks n l)) (IsRounds (suc n)) before after l (λ ans end t. t) b)

  -- among the ticks
  pub ticking_broken : GrowsFront before (ticked (nodes all_kinds l.world) l).live.acts after → Broken (IsRounds left) before after l
  ticking_broken front =
      round_broken (broken_first (Ticks l) (after_ticks n l) before after l (broken_alone (ticked (nodes all_kinds l.world)) before after l front) (λ m. ticks_ends n l m (λ k. rounds_end n k)))

  -- in the drain
  pub draining_broken : (taken : List Answer) (mid : LiveRan) → Ticks l taken l mid → mid.stopped ≡ None → Broken IsDrained before after mid.live → Broken (IsRounds left) before after l
  draining_broken taken mid is on b = round_broken (broken_second (Ticks l) (after_ticks n l) before after l taken mid is on (ticks_broken n l mid.live before after (λ k. rounds_end n k) b))

  -- in a later round
  pub later_broken : (taken rest : List Answer) (mid end : LiveRan) → Ticks l taken l mid → mid.stopped ≡ None → (length mid.live.world.packets == length l.world.packets) ≡ false → IsDrained rest mid.live end → end.stopped ≡ None
      → Broken (IsRounds n) before after end.live → Broken (IsRounds left) before after l
  later_broken taken rest mid end is on busy d still b =
      round_broken (broken_second (Ticks l) (after_ticks n l) before after l taken mid is on (more_broken n l mid.live before after rest end busy d still b))
