-- The links that a sequencer has told are true of the log that the run ends with, and so are those of its entries.
use Rattle.std.proofs.Common.{◌≡◌, ◌⊎◌, ℕ, ◌+◌, ◌<◌, ◌≤◌, List, [], ◌∷◌, ◌++◌, length, map, Bool, true, false, refl, sym, ap, ◌∙◌, subst, inl, inr, arith, Some, None, Option, append-nil}
use Rattle.std.specs.Prelude.{Contains, ◌==◌}
use Rattle.tg_base.specs.Clusters.{Header}
use Rattle.tg_base.specs.Layouts.{Layout}
use Rattle.tg_base.specs.declared.cell.Cell.TheVariants.{Data}
use Rattle.tg_base.specs.declared.ids.NodeId.{NodeId}
use Rattle.tg_base.specs.declared.ids.Oid.{Oid}
use Rattle.tg_base.specs.declared.ids.Role.TheVariants as role
use Rattle.tg_base.specs.declared.marks.StreamLink.{StreamLink}
use Rattle.tg_base.specs.declared.msg.Msg.{Msg}
use Rattle.tg_base.specs.declared.msg.Msg.TheVariants as msg
use Rattle.tg_base.specs.declared.packet.Out.{Out}
use Rattle.tg_base.specs.declared.packet.Packet.{Packet}
use Rattle.tg_entry.specs.declared.entry.Entry.{Entry}
use Rattle.tg_base.proofs.Rules.{layout_rules}
use Rattle.tg_kind.specs.Meaning.{Meaning}
use Rattle.tg_model.specs.Kinds.{EventOf}
use Rattle.tg_protocol.specs.Words.{seqr_id, unit_id}
use Rattle.tg_protocol.specs.Entries.{lists, backs_in, streams_of}
use Rattle.tg_protocol.specs.Replies.{reply}
use Rattle.tg_protocol.specs.Requests.{awaits, out, drawn_from}
use Rattle.tg_protocol.specs.Cells.{Place, CellWork, Puts, Gets, Fills, Copies, Probes, CellJob, cell_asks, cell_feed, work_asks}
use Rattle.tg_protocol.specs.Sequencers.{SeqrState, SeqrTurn, scanning, links_of, scan_asks, seqr_asks, stand_answer, answers, begun, issue, on_token, unfenced, own_epoch, on_learn, learn_or_old, fed_if, scan_fed, scan_turn, seqr_step, seqr_tick}
use Rattle.tg_protocol.specs.Logs.{entry_at}
use Rattle.tg_protocol.specs.Pages.{cell_entry}
use Rattle.tg_protocol.specs.Chosen.{IsDecided}
use Rattle.tg_protocol.specs.Worlds.{World, start, log, packet_of, happens, next_event}
use Rattle.tg_protocol.specs.Runs.{Moves, Move, Next, Takes, run, Reaches}
use Rattle.tg_law_layouts.specs.Moves.After.{after}
use Rattle.tg_law_layouts.specs.Moves.Configs.{Config, config, seqr_in}
use Rattle.tg_law_layouts.specs.Moves.Telling.{is_request}
use Rattle.tg_law_layouts.proofs.Moves.Growth.{IsCalm, by_seqr}
use Rattle.tg_law_layouts.proofs.Moves.Lists.{contained}
use Rattle.tg_law_layouts.proofs.Moves.Members.{Has, has_contained, has_left, has_either, has_filter, has_map}
use Rattle.tg_law_layouts.proofs.Moves.Moves.{Comes, seqr_turn, SeqrInput, Hears, Ticks, step_cases}
use Rattle.tg_law_layouts.proofs.Moves.Scripts.{run_both}
use Rattle.tg_law_layouts.proofs.Requests.Starts.{numbers_are_unique}
use Rattle.tg_law_layouts.proofs.Layouts.Deciding.{layouts_are_sound}
use Rattle.tg_law_cells.specs.Cells.Chains.{GoesDown, IsJustified}
use Rattle.tg_law_cells.specs.Cells.Settled.{IsSettled}
use Rattle.tg_law_cells.proofs.Cells.Stores.{stores_are_justified}
use Rattle.tg_law_cells.specs.Tokens.Issuing.{Issued}
use Rattle.tg_law_cells.specs.Homes.Homes.{Home}
use Rattle.tg_law_cells.proofs.Entries.Lists.{joined}
use Rattle.tg_law_walks.specs.Walks.Streams.{entry_lists, IsGood}
use Rattle.tg_law_walks.specs.Walks.Lists.{backs}
use Rattle.tg_law_walks.proofs.Walks.Listing.{own_links_good}
use Rattle.tg_law_walks.proofs.Walks.Seqrs.{seqrs_tell}
use Rattle.tg_law_walks.specs.Lists.Drafted.{IsFitPage, DraftsFit}
use Rattle.tg_law_walks.specs.Lists.Lists.{Counts}
use Rattle.tg_law_walks.specs.Lists.Spared.{TrimsWereSpare}
use Rattle.tg_law_walks.specs.Lists.Telling.{asks_links, tells_links, ToldLinks, LinksTrue, EntriesGood, AlwaysBySpareTrims}
use Rattle.tg_law_walks.proofs.Lists.Fits.{drafts_fit}
use Rattle.tg_law_walks.proofs.Lists.Ends.{PageAt, page_at, settled_of, home, fit_page, links_there, streams_there}
use Rattle.tg_law_walks.proofs.Lists.Runs.{bound_of, bounds_of, fine_at}
use Rattle.tg_law_walks.proofs.Lists.Safe.{safe_of}

-- What a sequencer's step tells.

abbrev at_pair : {X : Type 0} → ℕ → X → Option (ℕ × X)
at_pair n x = Some (n, x)

-- an answer that tells links goes to who asked, and to a request for links the links of its lists
pub record IsTold (s : SeqrState) (from : NodeId) (rid : ℕ) (y : Msg) (o : Out) (pos : ℕ) (ls : List StreamLink) : Type 0 where
  pub to : o.to ≡ from
  pub number : o.rid ≡ rid
  pub request : is_request y ≡ true
  pub links : (epoch : ℕ) (os : List Oid) → asks_links y ≡ Some (epoch, os) → (epoch ≡ s.epoch) × (scanning s ≡ false) × (pos ≡ s.next) × (ls ≡ links_of s.lists os)

abbrev Tells : SeqrState → NodeId → ℕ → Msg → List Out → Type 0
Tells s from rid y outs = (o : Out) (pos : ℕ) (ls : List StreamLink) → Has outs o → tells_links o.msg ≡ Some (pos, ls) → IsTold s from rid y o pos ls

abbrev Silent : Msg → Type 0
Silent x = (pos : ℕ) (ls : List StreamLink) → tells_links x ≡ Some (pos, ls) → ⊥

module _ (s : SeqrState) (from : NodeId) (rid : ℕ) (y : Msg) where
  none_told : Tells s from rid y []
  none_told o pos ls i t = absurd i

  one_silent : (to : NodeId) (r : ℕ) (x : Msg) → Silent x → Tells s from rid y (out to r x ∷ [])
  one_silent to r x f o pos ls (inl e) t = absurd (f pos ls (sym (ap (λ (z : Out). tells_links z.msg) e) ∙ t))
  one_silent to r x f o pos ls (inr i) t = absurd i

  work_silent : (a : Place) (w : CellWork) → Tells s from rid y (work_asks a w)
  unfolding work_asks tells_links
  work_silent a (Puts r d i) o pos ls h t = one_silent _ r _ (λ p ks e. cc) o pos ls h t
  work_silent a (Gets r) o pos ls h t = one_silent _ r _ (λ p ks e. cc) o pos ls h t
  work_silent a (Fills r) o pos ls h t = one_silent _ r _ (λ p ks e. cc) o pos ls h t
  work_silent a (Copies r c i) o pos ls h t = one_silent _ r _ (λ p ks e. cc) o pos ls h t
  work_silent a (Probes ws) o pos ls h t = let i = has_map (λ (w : ℕ × ℕ). out (unit_id w.0) w.1 (msg.Has a.epoch a.pos a.pos 1)) ws o h in absurd (none (sym (ap (λ (z : Out). tells_links z.msg) i.is) ∙ t))
    where
      none : None ≡ at_pair pos ls → ⊥
      none e = cc

  scan_silent : (j : Option CellJob) → Tells s from rid y (scan_asks j)
  scan_silent None o pos ls h t = absurd h
  scan_silent (Some j) o pos ls h t = work_silent j.place j.work o pos ls h t

  drawn_silent : (n : ℕ) (u : SeqrState) → Tells s from rid y (drawn_from n (seqr_asks u))
  drawn_silent n u o pos ls h t = scan_silent u.scan o pos ls (has_filter _ (seqr_asks u) o h) t

  silent_answer : (x : Msg) → Silent x → Tells s from rid y (answers s from rid x).sends
  silent_answer x f = one_silent from rid x f

  -- to a request that asks for no links
  plain_told : (x : Msg) → is_request y ≡ true → asks_links y ≡ None → Tells s from rid y (out from rid x ∷ [])
  plain_told x r none o pos ls (inl e) t = record { to = ap (λ (z : Out). z.to) e; number = ap (λ (z : Out). z.rid) e; request = r; links = λ epoch os a. absurd (no epoch os (sym none ∙ a)) }
    where
      no : (epoch : ℕ) (os : List Oid) → None ≡ at_pair epoch os → ⊥
      no epoch os i = cc
  plain_told x r none o pos ls (inr i) t = absurd i

  both_told : (o : Out) (outs : List Out) → Tells s from rid y (o ∷ []) → Tells s from rid y outs → Tells s from rid y (o ∷ outs)
  both_told o outs f g q pos ls (inl e) t = f q pos ls (inl e) t
  both_told o outs f g q pos ls (inr i) t = g q pos ls i t

  unfenced_told : (f : Option ℕ) (t : SeqrTurn) → (f ≡ None → Tells s from rid y t.sends) → Tells s from rid y (unfenced f s from rid t).sends
  unfolding tells_links
  unfenced_told None t k = k refl
  unfenced_told (Some e) t k = silent_answer (msg.OldEpoch e) (λ p ls i. cc)

  own_told : (b : Bool) (t : SeqrTurn) → (b ≡ true → Tells s from rid y t.sends) → Tells s from rid y (own_epoch b s from rid t).sends
  unfolding tells_links
  own_told true t k = unfenced_told s.fence t (λ f. k refl)
  own_told false t k = silent_answer (msg.OldEpoch s.epoch) (λ p ls i. cc)

  fed_told : (b : Bool) (now : SeqrState) → Tells s from rid y (fed_if b s now).sends
  fed_told true now = drawn_silent s.rids now
  fed_told false now = none_told

  scan_told : (j : Option CellJob) (x : Msg) → Tells s from rid y (scan_fed s j from rid x).sends
  scan_told None x = none_told
  scan_told (Some j) x = fed_told (awaits (cell_asks j) from rid) (scan_turn s (cell_feed j from.num (reply x) s.rids))

  learn_told : (q : Layout) (b : Bool) → is_request y ≡ true → asks_links y ≡ None → Tells s from rid y (on_learn s q from rid b).sends
  learn_told q true r none = both_told _ _ (plain_told _ r none) (drawn_silent s.rids (begun s q))
  learn_told q false r none = unfenced_told s.fence _ (λ f. plain_told _ r none)

  learn_or_told : (q : Layout) (b : Bool) → is_request y ≡ true → asks_links y ≡ None → Tells s from rid y (learn_or_old s q from rid b).sends
  unfolding tells_links
  learn_or_told q true r none = silent_answer (msg.OldEpoch s.epoch) (λ p ls i. cc)
  learn_or_told q false r none = learn_told q _ r none

some_pair : {X : Type 0} → (a b : ℕ) (x z : X) → at_pair a x ≡ at_pair b z → (a ≡ b) × (x ≡ z)
some_pair {X} a b x z e = let k = same (a, x) (b, z) e in (ap (λ (y : ℕ × X). y.0) k, ap (λ (y : ℕ × X). y.1) k)
  where
    same : (u v : ℕ × X) → Some u ≡ Some v → u ≡ v
    same u v i = cc

-- the links of its lists, to a request of its epoch
links_told : (s : SeqrState) (from : NodeId) (rid epoch : ℕ) (os : List Oid) (y x : Msg) → is_request y ≡ true → asks_links y ≡ Some (epoch, os) → epoch ≡ s.epoch → scanning s ≡ false → tells_links x ≡ Some (s.next, links_of s.lists os)
    → Tells s from rid y (out from rid x ∷ [])
links_told s from rid epoch os y x r asks own ready tells o pos ls (inl e) t =
    let k = some_pair s.next pos (links_of s.lists os) ls (sym tells ∙ (sym (ap (λ (z : Out). tells_links z.msg) e) ∙ t)) in
    record {
      to = ap (λ (z : Out). z.to) e;
      number = ap (λ (z : Out). z.rid) e;
      request = r;
      links = λ f oz a. let j = some_pair epoch f os oz (sym asks ∙ a) in (sym j.0 ∙ own, ready, sym k.0, sym k.1 ∙ ap (λ (ns : List Oid). links_of s.lists ns) j.1);
    }
links_told s from rid epoch os y x r asks own ready tells o pos ls (inr i) t = absurd i

is_same : (a b : ℕ) → (a == b) ≡ true → a ≡ b
is_same a b e = grind arith

stand_told : (s : SeqrState) (from : NodeId) (rid epoch : ℕ) (os : List Oid) (b : Bool) → scanning s ≡ b → epoch ≡ s.epoch → Tells s from rid (msg.Check epoch os) (answers s from rid (stand_answer s (links_of s.lists os) b)).sends
unfolding tells_links asks_links is_request
stand_told s from rid epoch os true is own = one_silent s from rid (msg.Check epoch os) from rid _ (λ p ls i. cc)
stand_told s from rid epoch os false is own = links_told s from rid epoch os (msg.Check epoch os) _ refl refl own is refl

issue_told : (s : SeqrState) (from : NodeId) (rid epoch : ℕ) (os : List Oid) (b : Bool) → scanning s ≡ false → epoch ≡ s.epoch → Tells s from rid (msg.Token epoch os) (issue s os from rid b).sends
unfolding tells_links asks_links is_request
issue_told s from rid epoch os true is own = one_silent s from rid (msg.Token epoch os) from rid _ (λ p ls i. cc)
issue_told s from rid epoch os false is own = links_told s from rid epoch os (msg.Token epoch os) _ refl refl own is refl

token_told : (s : SeqrState) (from : NodeId) (rid epoch : ℕ) (os : List Oid) (b : Bool) → scanning s ≡ b → epoch ≡ s.epoch → Tells s from rid (msg.Token epoch os) (on_token s os from rid b).sends
unfolding tells_links
token_told s from rid epoch os true is own = one_silent s from rid (msg.Token epoch os) from rid _ (λ p ls i. cc)
token_told s from rid epoch os false is own = issue_told s from rid epoch os _ is own

pub step_told : (s : SeqrState) (from : NodeId) (rid : ℕ) (y : Msg) → Tells s from rid y (seqr_step s from rid y).sends
unfolding seqr_step asks_links is_request
step_told s from rid (msg.Learn q) = learn_or_told s from rid (msg.Learn q) q _ refl refl
step_told s from rid (msg.Token epoch os) = own_told s from rid (msg.Token epoch os) (epoch == s.epoch) _ (λ e. token_told s from rid epoch os (scanning s) refl (is_same epoch s.epoch e))
step_told s from rid (msg.Check epoch os) = own_told s from rid (msg.Check epoch os) (epoch == s.epoch) _ (λ e. stand_told s from rid epoch os (scanning s) refl (is_same epoch s.epoch e))
step_told s from rid y = scan_told s from rid y s.scan y

held_answers : is_request msg.Held ≡ true → ⊥
unfolding is_request
held_answers e = cc

-- a tick tells nothing
pub tick_silent : (s : SeqrState) (o : Out) (pos : ℕ) (ls : List StreamLink) → Has (seqr_asks s) o → tells_links o.msg ≡ Some (pos, ls) → ⊥
tick_silent s o pos ls i t = held_answers (scan_silent s (seqr_id 0) 0 msg.Held s.scan o pos ls i t).request

-- a token's answer tells its links
told_of : (m : Meaning) (w : World m) (s epoch pos : ℕ) (os : List Oid) (ls : List StreamLink) → Issued m w s epoch pos os ls → ToldLinks m w s epoch os pos ls
unfolding asks_links tells_links
told_of m w s epoch pos os ls i = record {
  ask = i.ask;
  answer = i.answer;
  asked = i.asked;
  answered = i.answered;
  to_seqr = i.to_seqr;
  from_seqr = i.from_seqr;
  back = i.back;
  number = i.number;
  asks = ap asks_links i.asks;
  tells = ap tells_links i.issues;
}

-- Over a run.

module _ (m : Meaning) (h : Header) (zs : Moves m) (r : Reaches m h zs (after m h zs)) (trims : TrimsWereSpare m h zs) (fit : DraftsFit m (after m h zs)) where
  -- an answer that tells links is true, to the request that it was made to
  pub record Linked (ps : List Packet) (a : Packet) (pos : ℕ) (ls : List StreamLink) : Type 0 where
    pub ask : Packet
    pub has : Has ps ask
    pub to : ask.to ≡ a.from
    pub from : ask.from ≡ a.to
    pub rid : ask.rid ≡ a.rid
    pub request : is_request ask.msg ≡ true
    pub good : (epoch : ℕ) (os : List Oid) → asks_links ask.msg ≡ Some (epoch, os) → Counts m (after m h zs) epoch pos → (o : Oid) → Contains os o → IsGood (log m (after m h zs)) o pos (backs o ls)

  linked_grows : (ps qs : List Packet) (a : Packet) (pos : ℕ) (ls : List StreamLink) → ((x : Packet) → Has ps x → Has qs x) → Linked ps a pos ls → Linked qs a pos ls
  linked_grows ps qs a pos ls up k = record { ask = k.ask; has = up k.ask k.has; to = k.to; from = k.from; rid = k.rid; request = k.request; good = k.good }

  pub record All (c : Config m) : Type 0 where
    pub each : (s : ℕ) (a : Packet) (pos : ℕ) (ls : List StreamLink) → Has c.packets a → a.from ≡ seqr_id s → tells_links a.msg ≡ Some (pos, ls) → Linked c.packets a pos ls

  module _ (xs : Moves m) (e : EventOf m) (ys : Moves m) (split : zs ≡ xs ++ Takes e ∷ ys) (all : All (config m (after m h xs))) where
    abbrev c : Config m
    c = config m (after m h xs)

    calm : IsCalm m role.Seqr (config m (after m h xs)) All
    calm d q = record { each = λ s a pos ls has from tells. linked_grows (after m h xs).packets d.packets a pos ls q.grows.sent (all.each s a pos ls (q.old a has (ap (λ (n : NodeId). n.role) from)) from tells) }

    module _ (s : ℕ) where
      abbrev z : SeqrState
      z = seqr_in m (config m (after m h xs)) s

      heard : (p : Packet) → Comes m (config m (after m h xs)) p (seqr_id s) → (qs : List Packet) → ((x : Packet) → Has (after m h xs).packets x → Has qs x) → (a : Packet) (pos : ℕ) (ls : List StreamLink)
          → (o : Out) → a ≡ packet_of m (seqr_id s) o → IsTold z p.from p.rid p.msg o pos ls → Linked qs a pos ls
      heard p comes qs up a pos ls o is k = record {
        ask = p;
        has = up p comes.sent;
        to = comes.to_node ∙ sym (ap (λ (x : Packet). x.from) is);
        from = sym (ap (λ (x : Packet). x.to) is ∙ k.to);
        rid = sym (ap (λ (x : Packet). x.rid) is ∙ k.number);
        request = k.request;
        good = λ epoch os asks counts n i.
            let t = k.links epoch os asks in
            let counts' : Counts m (after m h zs) z.epoch z.next = subst (λ (x : ℕ). Counts m (after m h zs) z.epoch x) t.2 (subst (λ (x : ℕ). Counts m (after m h zs) x pos) t.0 counts) in
            let fine = fine_at m h zs r trims fit (bound_of m z.epoch z.next) (bounds_of m (after m h zs) z.epoch z.next counts') xs (Takes e ∷ ys) split s in
            subst (λ (x : ℕ). IsGood (log m (after m h zs)) n x (backs n ls)) (sym t.2)
            (subst (λ (ks : List StreamLink). IsGood (log m (after m h zs)) n z.next (backs n ks)) (sym t.3)
            (seqrs_tell (log m (after m h zs)) (bound_of m z.epoch z.next) z os n fine.so t.1 (within z.epoch z.next) i));
      }
        where
          within : (epoch n : ℕ) → n ≤ bound_of m epoch n epoch
          within epoch n = grind arith

      new : (t : SeqrTurn) → SeqrInput m (config m (after m h xs)) s t → (qs : List Packet) → ((x : Packet) → Has (after m h xs).packets x → Has qs x) → (a : Packet) (pos : ℕ) (ls : List StreamLink) → tells_links a.msg ≡ Some (pos, ls)
          → (o : Out) → Has t.sends o → a ≡ packet_of m (seqr_id s) o → Linked qs a pos ls
      unfolding seqr_tick
      new t (Hears p comes) qs up a pos ls tells o i is = heard p comes qs up a pos ls o is (step_told z p.from p.rid p.msg o pos ls i (sym (ap (λ (x : Packet). tells_links x.msg) is) ∙ tells))
      new t Ticks qs up a pos ls tells o i is = absurd (never (scan_silent z (seqr_id s) 0 msg.Held z.scan o pos ls i (sym (ap (λ (x : Packet). tells_links x.msg) is) ∙ tells)))
        where
          never : IsTold z (seqr_id s) 0 msg.Held o pos ls → ⊥
          never k = held_answers k.request

      own : (t : SeqrTurn) → SeqrInput m (config m (after m h xs)) s t → s < length (after m h xs).seqrs → All (seqr_turn m (config m (after m h xs)) s t)
      own t i less = record {
        each = λ n a pos ls has from tells. by n a pos ls from tells (has_either (after m h xs).packets _ a has);
      }
        where
          by : (n : ℕ) (a : Packet) (pos : ℕ) (ls : List StreamLink) → a.from ≡ seqr_id n → tells_links a.msg ≡ Some (pos, ls) → Has (after m h xs).packets a ⊎ Has (map (packet_of m (seqr_id s)) t.sends) a
              → Linked (seqr_turn m (config m (after m h xs)) s t).packets a pos ls
          by n a pos ls from tells (inl x) = linked_grows (after m h xs).packets _ a pos ls (λ y g. has_left (after m h xs).packets _ y g) (all.each n a pos ls x from tells)
          by n a pos ls from tells (inr x) = let k = has_map (packet_of m (seqr_id s)) t.sends a x in new t i _ (λ y g. has_left (after m h xs).packets _ y g) a pos ls tells k.of k.has k.is

    stepped : All (config m (happens m (after m h xs) e))
    stepped = step_cases m (after m h xs) All (by_seqr m All (config m (after m h xs)) all calm own) e

  then_takes : (xs : Moves m) (e : EventOf m) → after m h (xs ++ Takes e ∷ []) ≡ happens m (after m h xs) e
  unfolding run
  then_takes xs e = run_both m xs (Takes e ∷ []) (start m h)

  then_next : (xs : Moves m) → after m h (xs ++ Next ∷ []) ≡ next_event m (after m h xs)
  unfolding run
  then_next xs = run_both m xs (Next ∷ []) (start m h)

  shifts : (xs : Moves m) (x : Move m) (ys : Moves m) → zs ≡ xs ++ x ∷ ys → zs ≡ (xs ++ x ∷ []) ++ ys
  shifts xs x ys e = e ∙ sym (joined xs (x ∷ []) ys)

  -- up to any world through which it comes
  all_on : (xs ms ys : Moves m) → zs ≡ xs ++ (ms ++ ys) → All (config m (after m h xs)) → All (config m (after m h (xs ++ ms)))
  all_on xs [] ys e a = subst (λ (us : Moves m). All (config m (after m h us))) (sym (append-nil xs)) a
  all_on xs (Next ∷ ms) ys e a =
      subst (λ (us : Moves m). All (config m (after m h us))) (joined xs (Next ∷ []) ms)
      (all_on (xs ++ Next ∷ []) ms ys (shifts xs Next (ms ++ ys) e) (subst (λ (u : World m). All (config m u)) (sym (then_next xs)) (record { each = a.each })))
  all_on xs (Takes x ∷ ms) ys e a =
      subst (λ (us : Moves m). All (config m (after m h us))) (joined xs (Takes x ∷ []) ms)
      (all_on (xs ++ Takes x ∷ []) ms ys (shifts xs (Takes x) (ms ++ ys) e) (subst (λ (u : World m). All (config m u)) (sym (then_takes xs x)) (stepped xs x (ms ++ ys) e a)))

  start_all : All (config m (after m h []))
  unfolding run start
  start_all = record { each = λ s a pos ls has. absurd has }

  pub all_at : (xs ys : Moves m) → zs ≡ xs ++ ys → All (config m (after m h xs))
  all_at xs ys e = all_on [] xs ys e start_all

  all : All (config m (after m h zs))
  all = all_at zs [] (sym (append-nil zs))

  asked_request : (y : Msg) (epoch : ℕ) (os : List Oid) → asks_links y ≡ Some (epoch, os) → is_request y ≡ true
  unfolding asks_links is_request
  asked_request y epoch os i = grind arith

  pub links_here : LinksTrue m (after m h zs)
  links_here s epoch pos os ls o t counts i =
      let k = all.each s t.answer pos ls (has_contained _ t.answer t.answered) t.from_seqr t.tells in
      let same = numbers_are_unique m h zs (after m h zs) r k.ask t.ask (contained _ k.ask k.has) t.asked k.request (asked_request t.ask.msg epoch os t.asks) (k.from ∙ t.back) (k.to ∙ (t.from_seqr ∙ sym t.to_seqr)) (k.rid ∙ t.number) in
      k.good epoch os (ap asks_links same ∙ t.asks) counts o i

  -- Entries.

  same_entry : (a b : Entry) → Some a ≡ Some b → a ≡ b
  same_entry a b i = cc

  -- a page is sent in an epoch past 0
  some_epoch : (x : Packet) (epoch pos : ℕ) (d : List ℕ) → Contains (after m h zs).packets x → x.msg ≡ msg.Write epoch pos d → 0 < epoch
  some_epoch x epoch pos d sent is = by (subst (λ (y : Msg). IsJustified m (after m h zs) x.to y) is (stores_are_justified m h zs (after m h zs) r x sent))
    where
      by : GoesDown m (after m h zs) x.to epoch pos (Data d) → 0 < epoch
      by g =
          let some = (layout_rules g.layout (layouts_are_sound m h zs (after m h zs) r g.layout.epoch g.layout g.decided).rules).epoch in
          let a = g.epoch_is in
          let b = ap (λ (y : Place). y.epoch) g.at in
          omega (arith, some, a, b)

  good_entry : (o : Oid) (q : ℕ) (n : Entry) → entry_at (log m (after m h zs)) q ≡ Some n → lists n o ≡ true → IsGood (log m (after m h zs)) o q (backs_in n o)
  good_entry o q n is t = by (page_at (log m (after m h zs)) o q (ap (entry_lists o) is ∙ t))
    where
      by : PageAt (log m (after m h zs)) o q → IsGood (log m (after m h zs)) o q (backs_in n o)
      by g = subst (λ (ks : List StreamLink). IsGood (log m (after m h zs)) o q (backs o ks)) (sym same) (links_here page.own.seqr home'.epoch q (streams_of page.own.draft) page.own.links o told counts streams)
        where
          set : IsSettled m (after m h zs) q (Data g.page)
          set = settled_of m h zs r (safe_of m h zs r trims) q (Data g.page) g.here

          home' : Home m (after m h zs) q g.page set.layout.epoch
          home' = home m h zs r fit q g.page set

          page : IsFitPage m (after m h zs) home'.write.from home'.epoch q g.page
          page = fit_page m h zs r fit q g.page set

          here : n ≡ g.entry
          here = same_entry n g.entry (sym is ∙ (ap cell_entry g.here ∙ g.reads))

          same : n.head.streams ≡ page.own.links
          same = ap (λ (x : Entry). x.head.streams) here ∙ links_there m h zs r fit q g.page set g.entry g.reads

          told : ToldLinks m (after m h zs) page.own.seqr home'.epoch (streams_of page.own.draft) q page.own.links
          told = told_of m (after m h zs) page.own.seqr home'.epoch q (streams_of page.own.draft) page.own.links page.own.issued

          counts : Counts m (after m h zs) home'.epoch q
          counts = record {
            some = some_epoch home'.write home'.epoch q g.page home'.sent home'.is;
            before = λ y d.
                let e = (layouts_are_sound m h zs (after m h zs) r (home'.epoch + 1) y d).epoch in
                let past = home'.past y (subst (λ (k : ℕ). IsDecided m (after m h zs) k y) (sym e) d) (omega (arith, e)) in
                omega (arith, past);
          }

          streams : Contains (streams_of page.own.draft) o
          streams = contained (streams_of page.own.draft) o (streams_there m h zs r fit q g.page set n o (g.reads ∙ ap (λ (x : Entry). Some x) (sym here)) t)

  pub entries_here : EntriesGood m (after m h zs)
  entries_here = own_links_good (log m (after m h zs)) good_entry

module _ (m : Meaning) where
  by_run : (P : World m → Type 0) → ((h : Header) (ms : Moves m) → Reaches m h ms (after m h ms) → TrimsWereSpare m h ms → DraftsFit m (after m h ms) → P (after m h ms)) → AlwaysBySpareTrims m P
  by_run P f h ms w r trims =
      let here = subst (λ (u : World m). Reaches m h ms u) r.goes.is r in
      subst P (sym r.goes.is) (f h ms here trims (drafts_fit m h ms (after m h ms) here))

  pub links_are_true : AlwaysBySpareTrims m (LinksTrue m)
  links_are_true = by_run (LinksTrue m) (λ h ms r trims fit. links_here m h ms r trims fit)

  pub entries_are_good : AlwaysBySpareTrims m (EntriesGood m)
  entries_are_good = by_run (EntriesGood m) (λ h ms r trims fit. entries_here m h ms r trims fit)
