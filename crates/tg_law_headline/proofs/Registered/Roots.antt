-- Over a run: each stream of a token that was asked for was registered, or stands in an entry of the log, below what is issued to it.
use Rattle.std.proofs.Common.{◌≡◌, ◌⊎◌, ℕ, zero, suc, ◌+◌, ◌<◌, ◌≤◌, List, [], ◌∷◌, ◌++◌, map, length, Bool, true, false, refl, sym, ap, ◌∙◌, subst, inl, inr, arith, Option, Some, None, Contains, is_some}
use Rattle.std.specs.Prelude.{max, ◌&&◌, ◌==◌, slice_get, slice_index_or, ◌||◌}
use Rattle.std.specs.List.{list_any}
use Rattle.tg_base.specs.Clusters.{Header}
use Rattle.tg_base.specs.Layouts.{Layout}
use Rattle.tg_base.specs.Orders.{node_eq, role_number, oid_eq}
use Rattle.tg_base.specs.declared.cell.Cell.TheVariants.{Data}
use Rattle.tg_base.specs.declared.ids.NodeId.{NodeId}
use Rattle.tg_base.specs.declared.ids.Oid.{Oid}
use Rattle.tg_base.specs.declared.ids.Role.{Role}
use Rattle.tg_base.specs.declared.ids.Role.TheVariants as role
use Rattle.tg_base.specs.declared.marks.StreamLink.{StreamLink}
use Rattle.tg_base.specs.declared.msg.Msg.{Msg}
use Rattle.tg_base.specs.declared.msg.Msg.TheVariants as msg
use Rattle.tg_base.specs.declared.packet.Out.{Out}
use Rattle.tg_base.specs.declared.packet.Packet.{Packet}
use Rattle.tg_entry.specs.declared.entry.Entry.{Entry}
use Rattle.tg_kind.specs.Meaning.{Meaning}
use Rattle.tg_model.specs.Kinds.{CommandOf, EventOf}
use Rattle.tg_model.specs.declared.command.Command.TheVariants as cmd
use Rattle.tg_model.specs.declared.command.Event.TheVariants.{Command as Commands, Deliver, Lose, Tick, Stop}
use Rattle.tg_protocol.specs.Words.{client_id, directory, numbers}
use Rattle.tg_protocol.specs.Entries.{oid_of_link, streams_of, lists}
use Rattle.tg_protocol.specs.Requests.{Next, Goes, Learns, Ends}
use Rattle.tg_protocol.specs.Replies.{Reply, reply}
use Rattle.tg_protocol.specs.Appending.{Append, AppendWork, Asking, Putting, Judging, append_work_asks}
use Rattle.tg_protocol.specs.Sequencers.{seqr_tick}
use Rattle.tg_protocol.specs.Reconfiguring.{Reconf, ReconfEnd, ReconfTurn, reconf_feed, reconf_latest}
use Rattle.tg_protocol.specs.Views.{Entries, View, Base, base_of}
use Rattle.tg_protocol.specs.Clients.{Purpose, Writes, Judged, Decides, Rescues, Saves, Marks, Task, Syncing, Walking, Appending, Trimming, Copying', Reconfiguring, Hand, Work, Client, new_client, upto_in, upto, all_entries}
use Rattle.tg_protocol.specs.Answers.{base_upto, own_view, view_or_new}
use Rattle.tg_protocol.specs.ClientSteps.{task_in, task_awaited, task_asks, ClientTurn, client_command, client_deliver, client_tick}
use Rattle.tg_protocol.specs.Worlds.{World, start, happens, client, log, runs, count_of, packet_of, unit_moves, layout_moves, seqr_moves, client_turned, moves, comes, handed, delivers, noted_if, commands, ticks, ticks_if, stops_if}
use Rattle.tg_protocol.specs.Runs.{Move, Moves, Next as Counts, Takes, run, Reaches, LawfulCommand, LawfulEvent}
use Rattle.tg_law_layouts.specs.Moves.After.{after}
use Rattle.tg_law_layouts.specs.Moves.Configs.{Config, config, client_in, seqr_in}
use Rattle.tg_law_layouts.specs.Moves.Telling.{is_request}
use Rattle.tg_law_layouts.proofs.Moves.Growth.{Quiet, unit_quiet, layout_quiet, seqr_quiet}
use Rattle.tg_law_layouts.proofs.Moves.Lists.{contained, at_map, at_set}
use Rattle.tg_law_layouts.proofs.Moves.Members.{Has, has_got, has_left, has_right, has_either, has_map, has_contained, found, passes_somewhere}
use Rattle.tg_law_layouts.proofs.Moves.Members as members
use Rattle.tg_law_layouts.proofs.Moves.Moves.{client_turn, ClientInput, Commanded, Hears', Ticks', run_keeps}
use Rattle.tg_law_layouts.proofs.Requests.Numbers.{numbers_once}
use Rattle.tg_law_layouts.proofs.Layouts.Deciding.{decided_stays}
use Rattle.tg_law_layouts.proofs.Layouts.Decisions.{Pax, pax_keep}
use Rattle.tg_law_layouts.proofs.Layouts.Layouts.{start_pax}
use Rattle.tg_law_layouts.proofs.Layouts.Pax as pax
use Rattle.tg_law_layouts.proofs.Layouts.Phases.{phase, end_stand, TurnFollows, feed_follows, latest_follows}
use Rattle.tg_law_cells.specs.Tokens.Issuing.{Issued, is_issued}
use Rattle.tg_law_cells.proofs.Tokens.Archive.{log_sent}
use Rattle.tg_law_cells.proofs.Tokens.Issues.{low_holds, token_asks, token_epoch}
use Rattle.tg_law_cells.proofs.Tokens.Linked.{page_in}
use Rattle.tg_law_cells.proofs.Tokens.Own.{low_of, both_hold}
use Rattle.tg_law_cells.proofs.Tokens.Owning.{Wrote}
use Rattle.tg_law_cells.proofs.Tokens.Pages.{FromTurn, ToldLayout, AskedLatest, AskedInHand, input_fine}
use Rattle.tg_law_cells.proofs.Entries.Lists.{joined}
use Rattle.tg_law_cells.specs.Order.Tails.{IsSettledBelow, ConfirmedTail}
use Rattle.tg_law_cells.proofs.Order.Tails.{confirmed_tails_precede}
use Rattle.tg_law_replies.specs.Plays.Sound.{base_among}
use Rattle.tg_law_replies.specs.History.Logs.{state_below, AreListed}
use Rattle.tg_law_replies.specs.History.Worlds.{entries_in}
use Rattle.tg_law_replies.proofs.History.Cells.{logs_rise}
use Rattle.tg_law_replies.proofs.History.Members as lists'
use Rattle.tg_law_replies.proofs.Views.Judges.{mine_below}
use Rattle.tg_law_replies.proofs.Views.Plays.{fresh_true}
use Rattle.tg_law_replies.proofs.Views.Settled.{plays_further}
use Rattle.tg_law_replies.proofs.Pages.Read.{logs_keep_grammar}
use Rattle.tg_law_replies.specs.Replies.Ended.{AppendsEnd}
use Rattle.tg_law_replies.specs.Replies.Found.{mine, target, HasFound, FindsFor, Finds}
use Rattle.tg_law_replies.specs.Replies.Laws.{ClientsFind}
use Rattle.tg_law_replies.specs.Replies.Steps.{EachDelivery, EachEvent}
use Rattle.tg_law_replies.proofs.Replies.Along.{Along, passed, at_end, along, moved_by}
use Rattle.tg_law_replies.proofs.Replies.Carried.{both_more}
use Rattle.tg_law_replies.proofs.Replies.Telling.{RightAndKept, found_kept}
use Rattle.tg_law_walks.proofs.Drafts.Drafts.{named}
use Rattle.tg_law_walks.proofs.Drafts.Senders.{silent}
use Rattle.tg_law_walks.proofs.Drafts.Tokens.{scan_none, AsksToken, task_token}
use Rattle.tg_law_walks.specs.Lists.Drafted.{DraftsFit}
use Rattle.tg_law_walks.specs.Lists.Spared.{TrimsWereSpare}
use Rattle.tg_law_walks.proofs.Lists.Fits.{drafts_fit}
use Rattle.tg_law_walks.proofs.Lists.Reached.{before_reached, goes_later}
use Rattle.tg_law_walks.proofs.Lists.Safe.{safe_before}
use Rattle.tg_law_syncs.proofs.Syncs.Later.{grow, late}
use Rattle.tg_law_syncs.proofs.Known.FarHeld.{proposed_next}
use Rattle.tg_law_syncs.proofs.Known.Views.{played_low}
use Rattle.tg_law_syncs.proofs.Known.Ways.{played_view}
use Rattle.tg_law_syncs.proofs.Exact.Bases.{new_low}
use Rattle.tg_law_syncs.proofs.Exact.Finds as finds
use Rattle.tg_law_headline.specs.Trims.Floors.{HasTail, WasRegistered}
use Rattle.tg_law_headline.specs.Trims.Spare.{WereSpare}
use Rattle.tg_law_headline.proofs.Floors.Tails.{walks_have_tails}
use Rattle.tg_law_headline.specs.Registered.Registered.{TokensFollow, TokensFollowRegistrations}
use Rattle.tg_law_headline.proofs.Registered.Grounds.{Stands, Registered, Listed, Grounded, TaskGrounded, WorkGrounded, ClientGrounded, MarksKept, Own, IsOfLog, FoundFor, FoundGround, dir_reach, Rises, FeedFor, NewerFor, HearsFor, command_in, deliver_in, tick_in}

-- Packets that are told apart by whence, whither and which number.

roles_same : (a b : Role) → role_number a ≡ role_number b → a ≡ b
roles_same role.Unit role.Unit e = refl
roles_same role.Layout role.Layout e = refl
roles_same role.Seqr role.Seqr e = refl
roles_same role.Client role.Client e = refl
roles_same a b e = absurd cc

nodes_same : (a b : NodeId) → node_eq a b ≡ true → a ≡ b
unfolding node_eq
nodes_same a b e =
    let p = lists'.and_both (role_number a.role == role_number b.role) (a.num == b.num) e in
    let r = roles_same a.role b.role (lists'.same_number (role_number a.role) (role_number b.role) p.0) in
    let n = lists'.same_number a.num b.num p.1 in
    λ i. record { role = r i; num = n i }

node_itself : (a : NodeId) → node_eq a a ≡ true
unfolding node_eq
node_itself a = both (role_number a.role == role_number a.role) (a.num == a.num) (lists'.number_same (role_number a.role) (role_number a.role) refl) (lists'.number_same a.num a.num refl)
  where
    both : (s t : Bool) → s ≡ true → t ≡ true → (s && t) ≡ true
    both true true e f = refl
    both true false e f = f
    both false t e f = absurd cc

-- an issuing answer from this node to that one under the number
abbrev is_like : Packet → Packet → Bool
is_like a y = node_eq y.from a.from && (node_eq y.to a.to && ((y.rid == a.rid) && is_issued y.msg))

issues_of : (y : Msg) → is_issued y ≡ true → (p : ℕ) × (ls : List StreamLink) × (y ≡ msg.Issued p ls)
unfolding is_issued
issues_of (msg.Issued p ls) e = (p, ls, refl)
issues_of y e = absurd cc

issued_is : (y : Msg) (p : ℕ) (ls : List StreamLink) → y ≡ msg.Issued p ls → is_issued y ≡ true
unfolding is_issued
issued_is y p ls e = subst (λ (z : Msg). is_issued z ≡ true) (sym e) refl

like_itself : (a : Packet) → is_issued a.msg ≡ true → is_like a a ≡ true
like_itself a e = all (node_eq a.from a.from) (node_eq a.to a.to) (a.rid == a.rid) (is_issued a.msg) (node_itself a.from) (node_itself a.to) (lists'.number_same a.rid a.rid refl) e
  where
    all : (p q r s : Bool) → p ≡ true → q ≡ true → r ≡ true → s ≡ true → (p && (q && (r && s))) ≡ true
    all p q r s e f g h = grind arith

-- what a token that is in hand is asked for in
in_epoch : (e : ℕ) (os : List Oid) (p : Layout) (a : Append) (w : AppendWork) (o : Out) → Has (append_work_asks p a w) o → o.msg ≡ msg.Token e os → e ≡ p.epoch
unfolding append_work_asks
in_epoch e os p a (Asking r) o (inl i) is = token_epoch e p.epoch os (streams_of a.draft) (sym is ∙ ap (λ (y : Out). y.msg) i)
in_epoch e os p a (Asking r) o (inr i) is = absurd i
in_epoch e os p a (Putting j) o h is = scan_none e os (Some j) o h is
in_epoch e os p a (Judging j) o h is = scan_none e os (Some j) o h is

task_epoch : (m : Meaning) (e : ℕ) (os : List Oid) (p : Layout) (t : Task m) (o : Out) (a : Append) (y : Purpose m) → t ≡ Appending a y → Has (task_awaited m p t) o → o.msg ≡ msg.Token e os → e ≡ p.epoch
unfolding task_asks
task_epoch m e os p t o a y at h is = in_epoch e os p a a.work o (subst (λ (z : Task m). Has (task_awaited m p z) o) at h) is

listed_has : (ls : List StreamLink) (o : Oid) → list_any (λ l. oid_eq l.oid o) ls ≡ true → Has (map oid_of_link ls) o
listed_has [] o e = absurd cc
listed_has (x ∷ ls) o e = by (oid_eq x.oid o) refl e (λ k. listed_has ls o k)
  where
    by : (b : Bool) → oid_eq x.oid o ≡ b → (b || list_any (λ l. oid_eq l.oid o) ls) ≡ true → (list_any (λ l. oid_eq l.oid o) ls ≡ true → Has (map oid_of_link ls) o) → Has (x.oid ∷ map oid_of_link ls) o
    by true is k rest = inl (sym (lists'.same_oid x.oid o is))
    by false is k rest = inr (rest k)

none_view : {X : Type 0} {m : Meaning} (v : View m) → None ≡ Some v → X
none_view v e = absurd (cc)

-- Where another thing is past a position, so is what is grounded.
module _ (m : Meaning) (objects : List Oid) (es : Entries) (P Q : Layout → ℕ → Type 0) (on : (p : Layout) (n : ℕ) → P p n → Q p n) where
  ground_on : (p : Layout) (o : Oid) → Grounded m objects es P p o → Grounded m objects es Q p o
  ground_on p o g = record { upto = g.upto; is_past = on p g.upto g.is_past; stands = g.stands }

  kept_on : (view : Option (View m)) (y : Purpose m) → MarksKept m objects es P view y → MarksKept m objects es Q view y
  kept_on view (Marks n o j) g = (record { at = g.0.at; entry = g.0.entry; base = g.0.base; here = g.0.here; before = g.0.before; saves = g.0.saves; reaches = g.0.reaches }, g.1)
  kept_on view Writes g = tt
  kept_on view Judged g = tt
  kept_on view (Decides x) g = tt
  kept_on view (Rescues x) g = tt
  kept_on view (Saves o u) g = tt

  task_on : (p : Layout) (view : Option (View m)) (t : Task m) → TaskGrounded m objects es P p view t → TaskGrounded m objects es Q p view t
  task_on p view (Appending a y) g = ((λ o i. ground_on p o (g.0 o i)), kept_on view y g.1)
  task_on p view (Syncing s) g = tt
  task_on p view (Walking k os) g = tt
  task_on p view (Trimming t) g = tt
  task_on p view (Copying' x) g = tt
  task_on p view (Reconfiguring r) g = tt

  work_on : (p : Layout) (hosted : List Oid) (view : Option (View m)) (w : Option (Work m)) → WorkGrounded m objects es P p hosted view w → WorkGrounded m objects es Q p hosted view w
  work_on p hosted view None g = tt
  work_on p hosted view (Some w) g = (task_on p view (task_in m w.hand) g.0, g.1)

  client_on : (c : Client m) → ClientGrounded m objects es P c → ClientGrounded m objects es Q c
  client_on c g = (
    record {
      played = on c.stand c.played g.0.played;
      hosted = λ o i. ground_on c.stand o (g.0.hosted o i);
      view = λ v e. on c.stand (dir_reach m objects es P v) (g.0.view v e);
      writes = λ t e o i. ground_on c.stand o (g.0.writes t e o i);
      puts = g.0.puts;
    },
    work_on c.stand c.hosted c.view c.work g.1,
  )

module _ (m : Meaning) (h : Header) (zs : Moves m) (r : Reaches m h zs (after m h zs)) (trims : TrimsWereSpare m h zs) (found_all : ClientsFind m h zs (after m h zs)) (ends : AppendsEnd m h zs (after m h zs))
    (first : m.registered (state_below m h.objects (entries_in m (after m h zs)) 0 directory) directory ≡ true) where
  abbrev es : Entries
  es = entries_in m (after m h zs)

  abbrev pub St : Oid → ℕ → Type 0
  St = Stands m h.objects (entries_in m (after m h zs))

  stands_up : (o : Oid) (n k : ℕ) → n ≤ k → St o n → St o k
  stands_up o n k le (Registered at low is) = Registered at (omega (arith, low, le)) is
  stands_up o n k le (Listed p e less here i) = Listed p e (omega (arith, less, le)) here i

  -- a position that is issued by an answer which isn't among the packets of a world
  pub record IssuedFrom (c : Config m) (s epoch pos : ℕ) : Type 0 where
    pub streams : List Oid
    pub links : List StreamLink
    pub issued : Issued m (after m h zs) s epoch pos streams links
    pub since : Has c.packets issued.answer → ⊥

  -- whatever is issued so in a layout or in a later one is at or past a position
  abbrev pub Past : Config m → Layout → ℕ → Type 0
  Past c p n = (s epoch pos : ℕ) → p.epoch ≤ epoch → IssuedFrom c s epoch pos → n ≤ pos

  past_down : (c : Config m) (p : Layout) (t u : ℕ) → u ≤ t → Past c p t → Past c p u
  past_down c p t u le f s epoch pos k i = let a = f s epoch pos k i in omega (arith, le, a)

  past_none : (c : Config m) (p : Layout) → Past c p 0
  past_none c p s epoch pos k i = omega arith

  past_onto : (c : Config m) (p q : Layout) (t : ℕ) → p.epoch ≤ q.epoch → Past c p t → Past c q t
  past_onto c p q t le f s epoch pos k i = f s epoch pos (omega (arith, le, k)) i

  past_on : (c d : Config m) → ((x : Packet) → Has c.packets x → Has d.packets x) → (p : Layout) (n : ℕ) → Past c p n → Past d p n
  past_on c d g p n f s epoch pos k i = f s epoch pos k (record { streams = i.streams; links = i.links; issued = i.issued; since = λ x. i.since (g i.issued.answer x) })

  abbrev pub Ground : Config m → Client m → Type 0
  Ground c x = ClientGrounded m h.objects (entries_in m (after m h zs)) (Past c) x

  pub record Held (c : Config m) : Type 0 where
    pub clients : (k : ℕ) → Ground c (client_in m c k)
    pub tokens : (s epoch pos : ℕ) (os : List Oid) (ls : List StreamLink) (i : Issued m (after m h zs) s epoch pos os ls) → i.ask.from.role ≡ role.Client → Has c.packets i.ask → (o : Oid) → Has os o → St o pos

  listed : AreListed (entries_in m (after m h zs))
  listed = (logs_keep_grammar m (after m h zs)).0

  both : Along m (RightAndKept m h (entries_in m (after m h zs)) (logs_rise m (after m h zs)) listed) zs (start m h)
  both = found_kept m h zs (after m h zs) listed (logs_keep_grammar m (after m h zs)).1 r found_all ends

  -- A step.

  module _ (xs : Moves m) (e : EventOf m) (ys : Moves m) (split : zs ≡ xs ++ Takes e ∷ ys) (held : Held (config m (after m h xs))) where
    abbrev u : World m
    u = after m h xs

    abbrev c : Config m
    c = config m (after m h xs)

    rw : Reaches m h xs (after m h xs)
    rw = before_reached m h zs r xs (Takes e ∷ ys) split

    right : RightAndKept m h (entries_in m (after m h zs)) (logs_rise m (after m h zs)) listed (after m h xs)
    right = passed m (RightAndKept m h (entries_in m (after m h zs)) (logs_rise m (after m h zs)) listed) xs (Takes e ∷ ys) (start m h)
        (subst (λ (ms : Moves m). Along m (RightAndKept m h (entries_in m (after m h zs)) (logs_rise m (after m h zs)) listed) ms (start m h)) split both)

    up : (x : Packet) → Has (after m h xs).packets x → Has (after m h zs).packets x
    up = grow m h zs r xs (Takes e ∷ ys) split

    -- Where walks end.

    were : WereSpare m h xs
    were = record {
      were = record {
        safe = safe_before m h zs r trims xs (Takes e ∷ ys) split;
        spare = λ v g. trims.spare v (record { before = g.before; event = g.event; later = g.later ++ Takes e ∷ ys; split = split ∙ (ap (λ (ms : Moves m). ms ++ Takes e ∷ ys) g.split ∙ joined g.before (Takes g.event ∷ g.later) (Takes e ∷ ys)); is = g.is });
      };
      now = trims.spare (after m h xs) (record { before = xs; event = e; later = ys; split = split; is = refl });
    }

    tail_past : (d : Client m) (v : Work m) → HasTail m (after m h xs) d v → Past (config m (after m h xs)) d.stand v.tail
    tail_past d v t s epoch pos k i =
        confirmed_tails_precede m h zs (after m h xs) (after m h zs) r (record { before = xs; after = Takes e ∷ ys; split = split; is = refl }) s t.epoch epoch v.tail pos later
        (let a = t.up_to in omega (arith, a, k)) (record { streams = i.streams; links = i.links; issued = i.issued; since = λ x. i.since (has_contained (after m h xs).packets i.issued.answer x) })
      where
        by : (v.tail ≤ t.tail.layout.start) ⊎ IsSettledBelow m (after m h xs) t.epoch v.tail → (v.tail ≤ t.tail.layout.start) ⊎ IsSettledBelow m (after m h zs) t.epoch v.tail
        by (inl le) = inl le
        by (inr b) = inr (record { below = b.below; is = b.is; cell = b.cell; settled = late m h zs r xs (Takes e ∷ ys) split b.below b.cell b.settled; early = b.early })

        later : ConfirmedTail m (after m h xs) (after m h zs) t.epoch v.tail
        later = record {
          some = t.tail.some;
          layout = t.tail.layout;
          decided = (decided_stays m h xs (after m h xs) (after m h zs) rw (goes_later m h zs r xs (Takes e ∷ ys) split)).stays t.epoch t.tail.layout t.tail.decided;
          told = t.tail.told;
          confirmed = by t.tail.confirmed;
        }

    listed_ground : (d : Client m) (v : Work m) (own : Entries) → HasTail m (after m h xs) d v → ((p : ℕ) (y : Entry) → Contains own (p, y) → Contains (entries_in m (after m h zs)) (p, y) × (p < v.tail)) → Own m h.objects (entries_in m (after m h zs)) (Past (config m (after m h xs))) d own
    listed_ground d v own t f p y i o j = let a = f p y i in record { upto = v.tail; is_past = tail_past d v t; stands = Listed p y a.1 a.0 j }

    module _ (d : Client m) (v : Work m) (t : HasTail m (after m h xs) d v) (f : HasFound m h (entries_in m (after m h zs)) xs d v) where
      only : (p : ℕ) (y : Entry) → Contains (mine m d v) (p, y) → Contains (entries_in m (after m h zs)) (p, y)
      only p y i = by d.view refl
        where
          by : (o : Option (View m)) → d.view ≡ o → Contains (entries_in m (after m h zs)) (p, y)
          by None is = (f.new is).only p y i
          by (Some k) is = (f.kept k is).entries.only p y i

      upto_low : upto m d ≤ v.tail
      upto_low = by d.view refl
        where
          by : (o : Option (View m)) → d.view ≡ o → upto_in m o ≤ v.tail
          by None is = omega arith
          by (Some k) is = let a = (f.kept k is).stands in let b = f.high in omega (arith, a, b)

      base_low : (b : Base m) → base_of m (own_view m d v (mine m d v)) directory ≡ Some b → b.upto ≤ v.tail
      base_low b = by d.view refl
        where
          by : (o : Option (View m)) → d.view ≡ o → base_of m (view_or_new m d v (mine m d v) o) directory ≡ Some b → b.upto ≤ v.tail
          by None is at = new_low m (mine m d v) v.trims d.objects v.tail (λ p y x a i k. f.saved p y x a (lists'.contained_has (mine m d v) (p, y) i) k) d.hosted directory b at
          by (Some k) is at = (f.kept k is).low directory b at

      reach_low : dir_reach m h.objects (entries_in m (after m h zs)) (Past (config m (after m h xs))) (played_view m d v) ≤ v.tail
      reach_low = both_low (played_view m d v).upto (base_upto m (base_of m (played_view m d v) directory)) v.tail (played_low m d v v.tail upto_low f.high) (based (base_of m (played_view m d v) directory) same)
        where
          both_low : (a b n : ℕ) → a ≤ n → b ≤ n → max a b ≤ n
          both_low a b n x y = omega (arith, x, y)

          same : base_of m (own_view m d v (mine m d v)) directory ≡ base_of m (played_view m d v) directory
          same = ap (λ (bs : List (Base m)). base_among m bs directory) (sym (plays_further m (mine m d v) (own_view m d v (mine m d v)) (target m v)).bases)

          based : (o : Option (Base m)) → base_of m (own_view m d v (mine m d v)) directory ≡ o → base_upto m o ≤ v.tail
          based None is = omega arith
          based (Some b) is = base_low b is

      log_own : IsOfLog m h.objects (entries_in m (after m h zs)) (Past (config m (after m h xs))) v (mine m d v)
      log_own p y i = (only p y i, mine_below m d v d.hosted p y (lists'.has_contained (mine m d v) (p, y) i))

      found_ground : Past (config m (after m h xs)) d.stand (dir_reach m h.objects (entries_in m (after m h zs)) (Past (config m (after m h xs))) (played_view m d v)) × Own m h.objects (entries_in m (after m h zs)) (Past (config m (after m h xs))) d (mine m d v)
          × IsOfLog m h.objects (entries_in m (after m h zs)) (Past (config m (after m h xs))) v (mine m d v)
      found_ground = (
        past_down (config m (after m h xs)) d.stand v.tail _ reach_low (tail_past d v t),
        listed_ground d v (mine m d v) t log_own,
        log_own,
      )

    grounds : (d : Client m) (v : Work m) → HasTail m (after m h xs) d v → Finds m h (entries_in m (after m h zs)) xs d v → FoundGround m h.objects (entries_in m (after m h zs)) (Past (config m (after m h xs))) d v
    grounds d v t f = by v.command f
      where
        by : (x : CommandOf m) → FindsFor m h (entries_in m (after m h zs)) xs d v x → FoundFor m h.objects (entries_in m (after m h zs)) (Past (config m (after m h xs))) d v x
        by (cmd.AskAt p o q) f = tt
        by (cmd.Rescue p) f = listed_ground d v (all_entries m d v v.oids) t (λ p y i. (f.exact.only p y i, mine_below m d v v.oids p y (lists'.has_contained (all_entries m d v v.oids) (p, y) i)))
        by x f = found_ground d v t f

    each : EachEvent m h.objects (entries_in m (after m h zs)) (FoundGround m h.objects (entries_in m (after m h zs)) (Past (config m (after m h xs)))) (after m h xs) e
    each = both_more m h.objects (entries_in m (after m h zs)) (HasTail m (after m h xs)) (FoundGround m h.objects (entries_in m (after m h zs)) (Past (config m (after m h xs)))) (Finds m h (entries_in m (after m h zs)) xs) grounds (after m h xs) e
        (finds.event_more m h.objects (entries_in m (after m h xs)) (entries_in m (after m h zs)) (HasTail m (after m h xs)) (HasTail m (after m h xs)) (λ d v t. t) (after m h xs) e (walks_have_tails m h xs (after m h xs) e rw were))
        (found_all xs ys e split)

    -- A reconfiguration goes on in its layout or in a later one.

    module _ (k : ℕ) where
      abbrev p : Layout
      p = (client_in m (config m (after m h xs)) k).stand

      worker : (w : Work m) (q : Reconf) → (client_in m (config m (after m h xs)) k).work ≡ Some w → task_in m w.hand ≡ Reconfiguring q → pax.WorkerOk m (config m (after m h xs)).cluster.layouts k (after m h xs).packets p q
      worker w q works hand = subst (λ (o : Option Reconf). pax.HandOk m (config m (after m h xs)).cluster.layouts k (after m h xs).packets p o) (ap (λ (t : Task m). pax.task_reconf m t) hand)
          (subst (λ (o : Option (Work m)). pax.HandOk m (config m (after m h xs)).cluster.layouts k (after m h xs).packets p (pax.reconf_of m o)) works ((run_keeps m (Pax m) (pax_keep m) xs (start m h) (start_pax m h)).clients k))

      abbrev Up : Next Reconf ReconfEnd → Type 0
      Up to = Rises m h.objects (entries_in m (after m h zs)) (Past (config m (after m h xs))) (past_down (config m (after m h xs))) (past_none (config m (after m h xs))) (past_onto (config m (after m h xs))) first p to

      rises : (q : Reconf) (t : ReconfTurn) → q.stand ≡ p → TurnFollows q t → Up t.to
      rises q t at f = by t.to refl
        where
          epochs : q.stand.epoch ≡ p.epoch
          epochs = ap (λ (z : Layout). z.epoch) at

          by : (to : Next Reconf ReconfEnd) → t.to ≡ to → Up to
          by (Goes s) i = which (f.goes s i).stand
            where
              which : ((s.stand ≡ q.stand) × ((phase s.work ≡ 1) ⊎ (phase s.work ≡ phase q.work))) ⊎ ((q.stand.epoch < s.stand.epoch) × (phase s.work ≡ 2)) → p.epoch ≤ s.stand.epoch
              which (inl x) = let a = ap (λ (z : Layout). z.epoch) x.0 in omega (arith, a, epochs)
              which (inr x) = let a = x.0 in omega (arith, a, epochs)
          by (Learns s) i = tt
          by (Ends x) i = which (f.ends x i)
            where
              which : ((end_stand x ≡ q.stand) × (phase q.work ≡ 1 → ⊥)) ⊎ (q.stand.epoch < (end_stand x).epoch) → p.epoch ≤ (end_stand x).epoch
              which (inl y) = let a = ap (λ (z : Layout). z.epoch) y.0 in omega (arith, a, epochs)
              which (inr y) = omega (arith, y, epochs)

      abbrev Hearing : NodeId → ℕ → Reply → Type 0
      Hearing from rid x = HearsFor m h.objects (entries_in m (after m h zs)) (Past (config m (after m h xs))) (past_down (config m (after m h xs))) (past_none (config m (after m h xs))) (past_onto (config m (after m h xs))) first (client_in m (config m (after m h xs)) k) from rid x

      abbrev Feeding : Task m → ℕ → ℕ → Reply → Type 0
      Feeding t n rid x = FeedFor m h.objects (entries_in m (after m h zs)) (Past (config m (after m h xs))) (past_down (config m (after m h xs))) (past_none (config m (after m h xs))) (past_onto (config m (after m h xs))) first (client_in m (config m (after m h xs)) k) t n rid x

      abbrev Newer : Task m → ℕ → ℕ → Layout → Type 0
      Newer t n rid q = NewerFor m h.objects (entries_in m (after m h zs)) (Past (config m (after m h xs))) (past_down (config m (after m h xs))) (past_none (config m (after m h xs))) (past_onto (config m (after m h xs))) first (client_in m (config m (after m h xs)) k) t n rid q

      fed : (w : Work m) (t : Task m) → (client_in m (config m (after m h xs)) k).work ≡ Some w → task_in m w.hand ≡ t → (n rid : ℕ) (x : Reply) → Feeding t n rid x
      fed w (Reconfiguring q) has at n rid x = let o = worker w q has at in
          rises q (reconf_feed q q.work n rid x (client_in m (config m (after m h xs)) k).next) o.stand (feed_follows q n rid x (client_in m (config m (after m h xs)) k).next o.told (proposed_next m (config m (after m h xs)).cluster.layouts k (after m h xs).packets p q o))
      fed w (Syncing s) has at n rid x = tt
      fed w (Walking s os) has at n rid x = tt
      fed w (Appending a y) has at n rid x = tt
      fed w (Trimming s) has at n rid x = tt
      fed w (Copying' s) has at n rid x = tt

      newer : (w : Work m) (t : Task m) → (client_in m (config m (after m h xs)) k).work ≡ Some w → task_in m w.hand ≡ t → (n rid : ℕ) (q : Layout) → p.epoch < q.epoch → Newer t n rid q
      newer w (Reconfiguring s) has at n rid q less = let o = worker w s has at in
          rises s (reconf_latest s s.work n rid q (client_in m (config m (after m h xs)) k).next) o.stand (latest_follows s n rid q (client_in m (config m (after m h xs)) k).next o.told (let b = ap (λ (z : Layout). z.epoch) o.stand in omega (arith, less, b)))
      newer w (Syncing s) has at n rid q less = tt
      newer w (Walking s os) has at n rid q less = tt
      newer w (Appending a y) has at n rid q less = tt
      newer w (Trimming s) has at n rid q less = tt
      newer w (Copying' s) has at n rid q less = tt

      hearing : (from : NodeId) (rid : ℕ) (x : Reply) → Hearing from rid x
      hearing from rid x = record {
        answer = λ w t has doing awaited. fed w t has (ap (λ (d : Hand m). task_in m d) doing) from.num rid x;
        newer = λ w q has less. newer w (task_in m w.hand) has refl from.num rid q less;
      }

    -- A client's turn.

    module _ (k : ℕ) (t : ClientTurn m) (input : ClientInput m (config m (after m h xs)) k t) (less : k < length (after m h xs).clients) (g : Ground (config m (after m h xs)) t.now) where
      abbrev d : Config m
      d = client_turn m (config m (after m h xs)) k t

      -- a token that is asked for in this turn
      asked : (s epoch pos : ℕ) (os : List Oid) (ls : List StreamLink) (i : Issued m (after m h zs) s epoch pos os ls) → i.ask.from.role ≡ role.Client → (o : Out) → i.ask ≡ packet_of m (client_id k) o → FromTurn m t.now o → (x : Oid) → Has os x → St x pos
      asked s epoch pos os ls i from o is (ToldLayout q f) x j = absurd (no (sym f ∙ (ap (λ (y : Packet). y.msg) (sym is) ∙ i.asks)))
        where
          no : msg.Learn q ≡ msg.Token epoch os → ⊥
          no z = cc
      asked s epoch pos os ls i from o is (AskedLatest f) x j = absurd (no (sym f ∙ (ap (λ (y : Packet). y.msg) (sym is) ∙ i.asks)))
        where
          no : msg.AskLatest ≡ msg.Token epoch os → ⊥
          no z = cc
      asked s epoch pos os ls i from o is (AskedInHand w t' has at gh) x j = by (list_any (is_like i.answer) (after m h xs).packets) refl
        where
          tokens : o.msg ≡ msg.Token epoch os
          tokens = ap (λ (y : Packet). y.msg) (sym is) ∙ i.asks

          a : AsksToken m t' os
          a = task_token m t.now.stand t' o epoch os gh tokens

          same : epoch ≡ t.now.stand.epoch
          same = task_epoch m epoch os t.now.stand t' o a.append a.purpose a.is gh tokens

          ground : Grounded m h.objects (entries_in m (after m h zs)) (Past (config m (after m h xs))) t.now.stand x
          ground =
              let w' = subst (WorkGrounded m h.objects (entries_in m (after m h zs)) (Past (config m (after m h xs))) t.now.stand t.now.hosted t.now.view) has g.1 in
              let t'' = subst (λ (y : Task m). TaskGrounded m h.objects (entries_in m (after m h zs)) (Past (config m (after m h xs))) t.now.stand t.now.view y) (ap (λ (y : Hand m). task_in m y) at ∙ a.is) w'.0 in
              t''.0 x (subst (λ (ns : List Oid). Has ns x) a.streams j)

          new : (Has (after m h xs).packets i.answer → ⊥) → St x pos
          new since = stands_up x ground.upto pos (ground.is_past s epoch pos (omega (arith, same)) (record { streams = os; links = ls; issued = i; since = since })) ground.stands

          old : members.Passes (is_like i.answer) (after m h xs).packets → St x pos
          old y =
              let a1 = lists'.and_both (node_eq y.it.from i.answer.from) (node_eq y.it.to i.answer.to && ((y.it.rid == i.answer.rid) && is_issued y.it.msg)) y.passes in
              let a2 = lists'.and_both (node_eq y.it.to i.answer.to) ((y.it.rid == i.answer.rid) && is_issued y.it.msg) a1.1 in
              let a3 = lists'.and_both (y.it.rid == i.answer.rid) (is_issued y.it.msg) a2.1 in
              let whence = nodes_same y.it.from i.answer.from a1.0 in
              let whither = nodes_same y.it.to i.answer.to a2.0 in
              let number = lists'.same_number y.it.rid i.answer.rid a3.0 in
              let z = issues_of y.it.msg a3.1 in
              let ours = (low_holds m h xs).1.ours s y.it z.0 z.1 y.has (whence ∙ i.from_seqr) z.2 in
              let q = ours.asked in
              let f1 : q.ask.from ≡ i.ask.from = q.from ∙ (whither ∙ i.back) in
              let f2 : q.ask.to ≡ i.ask.to = q.to ∙ (whence ∙ (i.from_seqr ∙ sym i.to_seqr)) in
              let f3 : q.ask.rid ≡ i.ask.rid = q.rid ∙ (number ∙ i.number) in
              let f4 : q.ask.msg ≡ i.ask.msg = (numbers_once m (config m (after m h zs)) (low_holds m h zs).0.0.0).same q.ask i.ask (up q.ask q.has) (has_contained (after m h zs).packets i.ask i.asked)
              (token_asks q.ask.msg ours.epoch ours.os q.is) (token_asks i.ask.msg epoch os i.asks) f1 f2 f3 in
              held.tokens s epoch pos os ls i from (subst (λ (n : Packet). Has (after m h xs).packets n) (λ n. record { from = f1 n; to = f2 n; rid = f3 n; msg = f4 n }) q.has) x j

          by : (b : Bool) → list_any (is_like i.answer) (after m h xs).packets ≡ b → St x pos
          by true is = old (found (is_like i.answer) (after m h xs).packets is)
          by false is = new (λ y. absurd (contrary (sym (passes_somewhere (is_like i.answer) (after m h xs).packets i.answer y (like_itself i.answer (issued_is i.answer.msg pos ls i.issues))) ∙ is)))
            where
              contrary : true ≡ false → ⊥
              contrary z = cc

      turned : Held (client_turn m (config m (after m h xs)) k t)
      turned = record {
        clients = at_set (after m h xs).clients k t.now (new_client m (after m h xs).cluster) (λ j x. Ground (client_turn m (config m (after m h xs)) k t) x) less (later t.now g) (λ j other. later (client_in m (config m (after m h xs)) j) (held.clients j));
        tokens = λ s epoch pos os ls i from y o j. by s epoch pos os ls i from o j (has_either (after m h xs).packets (map (packet_of m (client_id k)) t.sends) i.ask y);
      }
        where
          later : (x : Client m) → Ground (config m (after m h xs)) x → Ground (client_turn m (config m (after m h xs)) k t) x
          later x f = client_on m h.objects (entries_in m (after m h zs)) (Past (config m (after m h xs))) (Past (client_turn m (config m (after m h xs)) k t))
              (past_on (config m (after m h xs)) (client_turn m (config m (after m h xs)) k t) (λ y i. has_left (after m h xs).packets (map (packet_of m (client_id k)) t.sends) y i)) x f

          by : (s epoch pos : ℕ) (os : List Oid) (ls : List StreamLink) (i : Issued m (after m h zs) s epoch pos os ls) → i.ask.from.role ≡ role.Client → (o : Oid) → Has os o
              → Has (after m h xs).packets i.ask ⊎ Has (map (packet_of m (client_id k)) t.sends) i.ask → St o pos
          by s epoch pos os ls i from o j (inl y) = held.tokens s epoch pos os ls i from y o j
          by s epoch pos os ls i from o j (inr y) =
              let n = has_map (packet_of m (client_id k)) t.sends i.ask y in
              let low = low_of m (config m (after m h xs)) (both_hold m h xs).0 in
              asked s epoch pos os ls i from n.of n.is ((input_fine m (config m (after m h xs)) low (both_hold m h xs).1 k t input).from n.of n.has) o j

    -- Others take their turns.

    calm : (d : Config m) → Quiet m role.Client (config m (after m h xs)) d → Held d
    calm d q = record {
      clients = λ k. client_on m h.objects (entries_in m (after m h zs)) (Past (config m (after m h xs))) (Past d) (past_on (config m (after m h xs)) d q.grows.sent) (client_in m d k)
          (subst (Ground (config m (after m h xs))) (λ i. slice_index_or (sym (q.clients refl) i) k (new_client m (sym q.cluster i) k)) (held.clients k));
      tokens = λ s epoch pos os ls i from y. held.tokens s epoch pos os ls i from (q.old i.ask y from);
    }

    below : (n : NodeId) → runs m (after m h xs) n ≡ true → n.num < count_of m (after m h xs) n.role
    below n is = grind arith

    as_named : (n : NodeId) (x : Role) → n.role ≡ x → n ≡ record { role = x; num = n.num }
    as_named n x e = λ i. record { role = e i; num = n.num }

    arrives : (i : ℕ) (y : Packet) → Has (after m h xs).packets y → (x : Role) → y.to.role ≡ x → y.to.num < count_of m (after m h xs) x
        → (x ≡ role.Client → EachDelivery m h.objects (entries_in m (after m h zs)) (FoundGround m h.objects (entries_in m (after m h zs)) (Past (config m (after m h xs)))) (client m (after m h xs) y.to.num) (client m (after m h xs) y.to.num).work y.from y.rid (reply y.msg))
        → Held (config m (moves m (handed m (after m h xs) i) y x))
    unfolding unit_moves layout_moves seqr_moves client_turned
    arrives i y s role.Unit at less f = calm _ (unit_quiet m role.Client (λ e. cc) (config m (after m h xs)) y.to.num y (record { sent = s; to_node = as_named y.to role.Unit at }) less)
    arrives i y s role.Layout at less f = calm _ (layout_quiet m role.Client (λ e. cc) (config m (after m h xs)) y.to.num y _ (record { sent = s; to_node = as_named y.to role.Layout at }))
    arrives i y s role.Seqr at less f = calm _ (seqr_quiet m role.Client (λ e. cc) (config m (after m h xs)) y.to.num _)
    arrives i y s role.Client at less f =
        turned y.to.num (client_deliver m (client_in m (config m (after m h xs)) y.to.num) y.from y.rid y.msg) (Hears' y (record { sent = s; to_node = as_named y.to role.Client at })) less
        (deliver_in m h.objects (entries_in m (after m h zs)) (Past (config m (after m h xs))) (past_down (config m (after m h xs))) (past_none (config m (after m h xs))) (past_onto (config m (after m h xs))) first
        (client_in m (config m (after m h xs)) y.to.num) y.from y.rid y.msg (held.clients y.to.num) (hearing y.to.num y.from y.rid (reply y.msg)) (f refl))

    delivered : (i : ℕ) → ((y : Packet) → slice_get (after m h xs).packets i ≡ Some y → y.to.role ≡ role.Client → runs m (after m h xs) y.to ≡ true
        → EachDelivery m h.objects (entries_in m (after m h zs)) (FoundGround m h.objects (entries_in m (after m h zs)) (Past (config m (after m h xs)))) (client m (after m h xs) y.to.num) (client m (after m h xs) y.to.num).work y.from y.rid (reply y.msg))
        → Held (config m (delivers m (after m h xs) i (slice_get (after m h xs).packets i)))
    delivered i f = by (slice_get (after m h xs).packets i) refl
      where
        comes_in : (y : Packet) → slice_get (after m h xs).packets i ≡ Some y → (b : Bool) → runs m (after m h xs) y.to ≡ b → Held (config m (comes m b (handed m (after m h xs) i) y))
        comes_in y is true on = arrives i y (has_got (after m h xs).packets i y is) y.to.role refl (below y.to on) (λ z. f y is z on)
        comes_in y is false on = held

        by : (o : Option Packet) → slice_get (after m h xs).packets i ≡ o → Held (config m (delivers m (after m h xs) i o))
        by None is = held
        by (Some y) is = comes_in y is (runs m (after m h xs) y.to) refl

    command_turn : (k : ℕ) (x : CommandOf m) → LawfulCommand m x → k < length (after m h xs).clients → Held (client_turn m (config m (after m h xs)) k (client_command m (client_in m (config m (after m h xs)) k) x))
    command_turn k x lawful less = turned k (client_command m (client_in m (config m (after m h xs)) k) x) (Commanded x) less
        (command_in m h.objects (entries_in m (after m h zs)) (Past (config m (after m h xs))) (past_down (config m (after m h xs))) (past_none (config m (after m h xs))) (past_onto (config m (after m h xs))) first
        (client_in m (config m (after m h xs)) k) x lawful (right.0.clients k).dir (held.clients k))

    commanded_noted : (k : ℕ) (x : CommandOf m) (b : Bool) → LawfulCommand m x → k < length (after m h xs).clients → Held (config m (client_turned m (noted_if m b (after m h xs) k (client m (after m h xs) k)) k (client_command m (client m (after m h xs) k) x)))
    unfolding client_turned
    commanded_noted k x true lawful less = command_turn k x lawful less
    commanded_noted k x false lawful less = command_turn k x lawful less

    commanded : (k : ℕ) (x : CommandOf m) (b : Bool) → LawfulCommand m x → runs m (after m h xs) (client_id k) ≡ b → Held (config m (commands m b (after m h xs) k x))
    commanded k x false lawful on = held
    commanded k x true lawful on = commanded_noted k x (is_some (client m (after m h xs) k).work) lawful (below (client_id k) on)

    ticked_role : (n : ℕ) (x : Role) → n < count_of m (after m h xs) x → Held (config m (ticks m (after m h xs) n x))
    unfolding client_turned
    ticked_role n role.Unit less = held
    ticked_role n role.Layout less = held
    ticked_role n role.Seqr less = calm _ (seqr_quiet m role.Client (λ e. cc) (config m (after m h xs)) n (seqr_tick (seqr_in m (config m (after m h xs)) n)))
    ticked_role n role.Client less = turned n (client_tick m (client_in m (config m (after m h xs)) n)) Ticks' less
        (tick_in m h.objects (entries_in m (after m h zs)) (Past (config m (after m h xs))) (past_down (config m (after m h xs))) (past_none (config m (after m h xs))) (past_onto (config m (after m h xs))) first
        (client_in m (config m (after m h xs)) n) (held.clients n))

    ticked : (n : NodeId) (b : Bool) → runs m (after m h xs) n ≡ b → Held (config m (ticks_if m b (after m h xs) n))
    ticked n false on = held
    ticked n true on = ticked_role n.num n.role (below n on)

    stops : (n : NodeId) (b : Bool) → Held (config m (stops_if m b (after m h xs) n))
    stops n true = held
    stops n false = held

    happened : (x : EventOf m) → LawfulEvent m (start m h).cluster x → EachEvent m h.objects (entries_in m (after m h zs)) (FoundGround m h.objects (entries_in m (after m h zs)) (Past (config m (after m h xs)))) (after m h xs) x → Held (config m (happens m (after m h xs) x))
    unfolding happens
    happened (Commands k x) lawful f = commanded k x (runs m (after m h xs) (client_id k)) lawful.1 refl
    happened (Deliver i) lawful f = delivered i f
    happened (Lose i) lawful f = held
    happened (Tick n) lawful f = ticked n (runs m (after m h xs) n) refl
    happened (Stop n) lawful f = stops n (runs m (after m h xs) n)

    stepped : Held (config m (happens m (after m h xs) e))
    stepped = happened e (r.goes.lawful (Takes e) (contained zs (Takes e) (subst (λ (ms : Moves m). Has ms (Takes e)) (sym split) (has_right xs (Takes e ∷ ys) (Takes e) (inl refl))))) each

  -- Along the run.

  abbrev pub Q : World m → Type 0
  Q u = Held (config m u)

  start_ground : (k j : ℕ) → Ground (config m (after m h [])) (new_client m h j)
  unfolding new_client
  start_ground k j = (
    record {
      played = past_none (config m (after m h [])) (new_client m h j).stand;
      hosted = λ o i. dir o i;
      view = λ v e. none_view v e;
      writes = λ t e. absurd cc;
      puts = λ t e. absurd cc;
    },
    tt,
  )
    where
      dir : (o : Oid) → Has (directory ∷ []) o → Grounded m h.objects (entries_in m (after m h zs)) (Past (config m (after m h []))) (new_client m h j).stand o
      dir o (inl e) = subst (λ (x : Oid). Grounded m h.objects (entries_in m (after m h zs)) (Past (config m (after m h []))) (new_client m h j).stand x) (sym e) (record { upto = 0; is_past = past_none (config m (after m h [])) (new_client m h j).stand; stands = Registered 0 (omega arith) first })
      dir o (inr i) = absurd i

  start_held : Held (config m (after m h []))
  unfolding run start
  start_held = record {
    clients = λ k. at_map (new_client m h) (numbers h.clients 0) k (new_client m h k) (λ (x : Client m). Ground (config m (start m h)) x) (λ j. start_ground k j) (start_ground k k);
    tokens = λ s epoch pos os ls i from y. absurd y;
  }

  pub held_along : Along m Q zs (start m h)
  unfolding run
  held_along = along m Q h zs start_held next
    where
      next : (before after' : Moves m) (x : Move m) → zs ≡ before ++ x ∷ after' → Along m Q before (start m h) → Q (moved_by m x (run m before (start m h)))
      next before after' Counts split k = at_end m Q before (start m h) k
      next before after' (Takes e) split k = stepped before e after' split (at_end m Q before (start m h) k)

  held_now : Held (config m (after m h zs))
  held_now = at_end m Q zs (start m h) held_along

  -- each token
  stands_at : (s epoch pos : ℕ) (os : List Oid) (ls : List StreamLink) → Issued m (after m h zs) s epoch pos os ls → (o : Oid) → Has os o → St o pos
  stands_at s epoch pos os ls i o j = by i.ask.from.role refl
    where
      has : Has (after m h zs).packets i.ask
      has = has_contained (after m h zs).packets i.ask i.asked

      no : {X : Type 0} → is_request i.ask.msg ≡ false → X
      no f = absurd (contrary (sym (token_asks i.ask.msg epoch os i.asks) ∙ f))
        where
          contrary : true ≡ false → ⊥
          contrary z = cc

      by : (x : Role) → i.ask.from.role ≡ x → St o pos
      by role.Client from = held_now.tokens s epoch pos os ls i from has o j
      by role.Seqr from = absurd ((silent m h zs).tokens i.ask has from epoch os i.asks)
      by role.Unit from = no ((low_of m (config m (after m h zs)) (both_hold m h zs).0).all.0.0.units i.ask has from)
      by role.Layout from = no ((low_of m (config m (after m h zs)) (both_hold m h zs).0).all.0.0.layouts i.ask has from)

  fit : DraftsFit m (after m h zs)
  fit = drafts_fit m h zs (after m h zs) r

  -- an entry's streams are those of its token
  record TokenOf (p : ℕ) (y : Entry) : Type 0 where
    seqr : ℕ
    epoch : ℕ
    links : List StreamLink
    issued : Issued m (after m h zs) seqr epoch p (streams_of y) links

  token_of : (p : ℕ) (y : Entry) → Contains (entries_in m (after m h zs)) (p, y) → TokenOf p y
  token_of p y i =
      let k = page_in (log m (after m h zs)) p y (has_contained (entries_in m (after m h zs)) (p, y) i) in
      let t : Wrote (after m h zs).packets p k.page = log_sent m h zs p (Data k.page) k.here in
      let f = fit.pages t.packet t.epoch p k.page (contained (after m h zs).packets t.packet t.sent) t.is in
      let streams : streams_of f.own.draft ≡ streams_of y = sym (named (streams_of f.own.draft) f.own.links f.own.names) ∙ ap (λ (ls : List StreamLink). map oid_of_link ls) (sym (f.reads y k.reads)) in
      record { seqr = f.own.seqr; epoch = t.epoch; links = f.own.links; issued = subst (λ (os : List Oid). Issued m (after m h zs) f.own.seqr t.epoch p os f.own.links) streams f.own.issued }

  -- by the positions below
  registered_at : (n s epoch pos : ℕ) (os : List Oid) (ls : List StreamLink) → pos < n → Issued m (after m h zs) s epoch pos os ls → (o : Oid) → Has os o → WasRegistered m h.objects (after m h zs) o pos
  registered_at zero s epoch pos os ls less i o j = absurd (omega (arith, less))
  registered_at (suc n) s epoch pos os ls less i o j = by (λ k e q ns ms a b. registered_at n k e q ns ms a b) (stands_at s epoch pos os ls i o j)
    where
      by : ((k e q : ℕ) (ns : List Oid) (ms : List StreamLink) → q < n → Issued m (after m h zs) k e q ns ms → (x : Oid) → Has ns x → WasRegistered m h.objects (after m h zs) x q) → St o pos → WasRegistered m h.objects (after m h zs) o pos
      by rest (Registered at low is) = record { at = at; low = low; registered = is }
      by rest (Listed p y lower here k) =
          let t = token_of p y here in
          let w = rest t.seqr t.epoch p (streams_of y) t.links (omega (arith, less, lower)) t.issued o k in
          record { at = w.at; low = (let a = w.low in omega (arith, a, lower)); registered = w.registered }

  pub follow : TokensFollow m h.objects (after m h zs)
  follow s epoch pos os ls o i j = registered_at (pos + 1) s epoch pos os ls (omega arith) i o (has_contained os o j)

  -- so each object in whose stream an entry stands
  pub entries_registered : (q : ℕ) (e : Entry) (o : Oid) → Contains (entries_in m (after m h zs)) (q, e) → lists e o ≡ true → WasRegistered m h.objects (after m h zs) o q
  entries_registered q e o i l = let t = token_of q e i in registered_at (q + 1) t.seqr t.epoch q (streams_of e) t.links (omega arith) t.issued o (listed_has e.head.streams o l)

module _ (m : Meaning) where
  pub tokens_follow_registrations : TokensFollowRegistrations m
  tokens_follow_registrations is_object is_op dir h ms w r trims found_all ends =
      subst (λ (v : World m). Reaches m h ms v → ClientsFind m h ms v → AppendsEnd m h ms v → TokensFollow m h.objects v) (sym r.goes.is)
      (λ a b c. follow m h ms a trims b c (ap (λ (s : m.state). m.registered s directory) (sym (fresh_true m h.objects (entries_in m (after m h ms)) directory (logs_rise m (after m h ms))).state) ∙ dir.first_listed h.objects)) r found_all ends
