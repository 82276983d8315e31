-- What a sequencer tells a client lies past all that was confirmed to it before it asked.
use Rattle.std.proofs.Common.{◌≡◌, ◌⊎◌, ℕ, ◌≤◌, List, ◌++◌, map, true, refl, sym, ap, ◌∙◌, subst, inl, inr, arith, Some, Option}
use Rattle.tg_base.specs.Clusters.{Header}
use Rattle.tg_base.specs.Layouts.{Layout}
use Rattle.tg_base.specs.declared.ids.NodeId.{NodeId}
use Rattle.tg_base.specs.declared.ids.Oid.{Oid}
use Rattle.tg_base.specs.declared.marks.StreamLink.{StreamLink}
use Rattle.tg_base.specs.declared.msg.Msg.{Msg}
use Rattle.tg_base.specs.declared.msg.Msg.TheVariants as msg
use Rattle.tg_base.specs.declared.packet.Out.{Out}
use Rattle.tg_base.specs.declared.packet.Packet.{Packet}
use Rattle.tg_kind.specs.Meaning.{Meaning}
use Rattle.tg_protocol.specs.Words.{client_id, seqr_id}
use Rattle.tg_protocol.specs.Entries.{streams_of}
use Rattle.tg_protocol.specs.Requests.{out}
use Rattle.tg_protocol.specs.Appending.{AppendWork, Asking, Append, append_work_asks}
use Rattle.tg_protocol.specs.Syncing.{SyncWork, Checking, Sync, sync_work_asks}
use Rattle.tg_protocol.specs.Sequencers.{SeqrTurn, scanning}
use Rattle.tg_protocol.specs.Clients.{Purpose, Syncing, Appending, Hand, Doing, Work, Client, upto}
use Rattle.tg_protocol.specs.ClientSteps.{task_asks}
use Rattle.tg_protocol.specs.Worlds.{log, packet_of}
use Rattle.tg_protocol.specs.Runs.{Moves, Reaches}
use Rattle.tg_law_layouts.specs.Moves.After.{after}
use Rattle.tg_law_layouts.specs.Moves.Configs.{Config, config, client_in, seqr_in}
use Rattle.tg_law_layouts.specs.Moves.Telling.{is_request}
use Rattle.tg_law_layouts.proofs.Moves.Clients.{reserved, work_reserved, hand_reserved}
use Rattle.tg_law_layouts.proofs.Moves.Members.{Has, has_either, has_map}
use Rattle.tg_law_layouts.proofs.Moves.Moves.{SeqrInput, seqr_turn}
use Rattle.tg_law_layouts.proofs.Requests.Starts.{All, all_hold}
use Rattle.tg_law_layouts.specs.Layouts.Decisions.{IsOfDecided}
use Rattle.tg_law_layouts.proofs.Layouts.Deciding.{layouts_are_known}
use Rattle.tg_law_walks.specs.Lists.Drafted.{DraftsFit}
use Rattle.tg_law_walks.specs.Lists.Spared.{TrimsWereSpare}
use Rattle.tg_law_walks.specs.Lists.Telling.{asks_links, tells_links}
use Rattle.tg_law_walks.proofs.Lists.Reached.{before_reached}
use Rattle.tg_law_syncs.proofs.Known.Past as answers
use Rattle.tg_law_syncs.proofs.Known.Past.{Answered, Answers, answers_hold, turn_tells}
use Rattle.tg_law_syncs.proofs.Known.FarTurns.{IsPast, HandFar, WorkFar}
use Rattle.tg_law_syncs.proofs.Known.Reaches.{Reached, Past, Told, below_next}
use Rattle.tg_law_syncs.proofs.Known.Growing.{T, FarIn, Tells}

-- what is outstanding of a sync and of an append

pub check_in : (p : Layout) (s : Sync) (w : SyncWork) (rid : ℕ) → w ≡ Checking rid → Has (sync_work_asks p s w) (out (seqr_id p.seq) rid (msg.Check p.epoch s.oids))
unfolding sync_work_asks
check_in p s (Checking i) rid e = inl (sym (ap (λ (v : SyncWork). asked v) e))
  where
    asked : SyncWork → Out
    asked (Checking i) = out (seqr_id p.seq) i (msg.Check p.epoch s.oids)
    asked v = out (seqr_id p.seq) rid (msg.Check p.epoch s.oids)
check_in p s v rid e = absurd (cc)

pub token_in : (p : Layout) (a : Append) (w : AppendWork) (rid : ℕ) → w ≡ Asking rid → Has (append_work_asks p a w) (out (seqr_id p.seq) rid (msg.Token p.epoch (streams_of a.draft)))
unfolding append_work_asks
token_in p a (Asking i) rid e = inl (sym (ap (λ (v : AppendWork). asked v) e))
  where
    asked : AppendWork → Out
    asked (Asking i) = out (seqr_id p.seq) i (msg.Token p.epoch (streams_of a.draft))
    asked v = out (seqr_id p.seq) rid (msg.Token p.epoch (streams_of a.draft))
token_in p a v rid e = absurd (cc)

pub check_asks : (e : ℕ) (os : List Oid) → asks_links (msg.Check e os) ≡ Some (e, os)
unfolding asks_links
check_asks e os = refl

pub token_asks : (e : ℕ) (os : List Oid) → asks_links (msg.Token e os) ≡ Some (e, os)
unfolding asks_links
token_asks e os = refl

module _ (m : Meaning) (h : Header) (zs : Moves m) (r : Reaches m h zs (after m h zs)) (trims : TrimsWereSpare m h zs) (fit : DraftsFit m (after m h zs)) (xs ys : Moves m) (split : zs ≡ xs ++ ys) (k : ℕ) where
  abbrev c : Config m
  c = config m (after m h xs)

  abbrev x : Client m
  x = client_in m (config m (after m h xs)) k

  abbrev p : Layout
  p = (client_in m (config m (after m h xs)) k).stand

  stand_decided : IsOfDecided m (after m h xs) p
  stand_decided = (layouts_are_known m h xs (after m h xs) (before_reached m h zs r xs ys split)).clients k

  pub open_sync : (w : Work m) (s : Sync) (rid : ℕ) → x.work ≡ Some w → w.hand ≡ Doing (Syncing s) → s.work ≡ Checking rid → Has (reserved m x) (out (seqr_id p.seq) rid (msg.Check p.epoch s.oids))
  unfolding task_asks
  open_sync w s rid has at e = subst (λ (v : Option (Work m)). Has (work_reserved m p v) (out (seqr_id p.seq) rid (msg.Check p.epoch s.oids))) (sym has) (subst (λ (d : Hand m). Has (hand_reserved m p d) (out (seqr_id p.seq) rid (msg.Check p.epoch s.oids))) (sym at) (check_in p s s.work rid e))

  pub open_token : (w : Work m) (a : Append) (y : Purpose m) (rid : ℕ) → x.work ≡ Some w → w.hand ≡ Doing (Appending a y) → a.work ≡ Asking rid → Has (reserved m x) (out (seqr_id p.seq) rid (msg.Token p.epoch (streams_of a.draft)))
  unfolding task_asks
  open_token w a y rid has at e = subst (λ (v : Option (Work m)). Has (work_reserved m p v) (out (seqr_id p.seq) rid (msg.Token p.epoch (streams_of a.draft)))) (sym has) (subst (λ (d : Hand m). Has (hand_reserved m p d) (out (seqr_id p.seq) rid (msg.Token p.epoch (streams_of a.draft)))) (sym at) (token_in p a a.work rid e))

  -- What is told to a request in hand.

  module _ (rid : ℕ) (y : Msg) (os : List Oid) (asks : asks_links y ≡ Some (p.epoch, os)) (open' : Has (reserved m x) (out (seqr_id p.seq) rid y)) where
    same_ask : (ask : Packet) → Has c.packets ask → ask.from ≡ client_id k → is_request ask.msg ≡ true → ask.rid ≡ rid → ask.to ≡ seqr_id p.seq → asks_links ask.msg ≡ Some (p.epoch, os)
    same_ask ask g from req number to =
        let all : All m (config m (after m h xs)) = all_hold m h xs in
        sym (ap asks_links ((all.0.0.clients k).agree (out (seqr_id p.seq) rid y) ask open' g from req (sym number) (sym to))) ∙ asks

    -- an answer that is there: its sequencer has issued up to there
    pub reached : (a : Packet) → Has c.packets a → a.to ≡ client_id k → a.from ≡ seqr_id p.seq → a.rid ≡ rid → (t : ℕ) (ls : List StreamLink) → tells_links a.msg ≡ Some (t, ls) → Reached m h zs r trims fit c p t
    reached a g to from number t ls tells =
        let b = (answers_hold m h xs).1.each p.seq a t ls g from tells in
        b.reached p.epoch os (same_ask b.ask b.has (b.from ∙ to) b.request (b.rid ∙ number) (b.to ∙ from))

    -- an answer that is made: it tells the next position
    module _ (s : ℕ) (t : SeqrTurn) (i : SeqrInput m c s t) where
      pub told_next : (P : ℕ → Type 0) → ((n : ℕ) → ((u : ℕ) → Past m h zs r trims fit c p u → u ≤ n) → P n) → T m h zs r trims fit c k p rid P → T m h zs r trims fit (seqr_turn m c s t) k p rid P
      told_next P new old a g to from number n ls tells = by (has_either c.packets (map (packet_of m (seqr_id s)) t.sends) a g)
        where
          same_seqr : (u v : ℕ) → seqr_id u ≡ seqr_id v → u ≡ v
          same_seqr u v e = ap (λ (z : NodeId). z.num) e

          made : (o : Out) → a ≡ packet_of m (seqr_id s) o → answers.Tells m c s o n ls → P n
          made o is b =
              let mine : s ≡ p.seq = same_seqr s p.seq (sym (ap (λ (z : Packet). z.from) is) ∙ from) in
              let to' : o.to ≡ client_id k = sym (ap (λ (z : Packet). z.to) is) ∙ to in
              let rid' : o.rid ≡ rid = sym (ap (λ (z : Packet). z.rid) is) ∙ number in
              let l = b.told.links p.epoch os (same_ask b.ask b.comes.sent (sym b.told.to ∙ to') b.told.request (sym b.told.number ∙ rid') (b.comes.to_node ∙ ap seqr_id mine)) in
              subst P (sym (l.2 ∙ ap (λ (j : ℕ). (seqr_in m c j).next) mine))
              (new (seqr_in m c p.seq).next (λ u f. below_next m h zs r trims fit xs ys split p u stand_decided (sym (l.0 ∙ ap (λ (j : ℕ). (seqr_in m c j).epoch) mine)) (ap (λ (j : ℕ). scanning (seqr_in m c j)) (sym mine) ∙ l.1) f))

          by : Has c.packets a ⊎ Has (map (packet_of m (seqr_id s)) t.sends) a → P n
          by (inl o) = old a o to from number n ls tells
          by (inr o) =
              let q = has_map (packet_of m (seqr_id s)) t.sends a o in
              made q.of q.is (turn_tells m c s t i q.of n ls q.has (sym (ap (λ (z : Packet). tells_links z.msg) q.is) ∙ tells))

  -- So it stays through a sequencer's turn.

  pub far_hand : FarIn m h zs r trims fit c k x → (w : Work m) (d : Hand m) → x.work ≡ Some w → w.hand ≡ d → HandFar m (log m (after m h zs)) (Reached m h zs r trims fit c) (Past m h zs r trims fit c) (Told m h zs r trims fit c k) x w d
  far_hand f w d has at = subst (λ (e : Hand m). HandFar m (log m (after m h zs)) (Reached m h zs r trims fit c) (Past m h zs r trims fit c) (Told m h zs r trims fit c k) x w e) at
      (subst (λ (v : Option (Work m)). WorkFar m (log m (after m h zs)) (Reached m h zs r trims fit c) (Past m h zs r trims fit c) (Told m h zs r trims fit c k) x v) has f.work)

  pub seqr_tells : FarIn m h zs r trims fit c k x → (s : ℕ) (t : SeqrTurn) → SeqrInput m c s t → Tells m h zs r trims fit c (seqr_turn m c s t) k x
  seqr_tells f s t i = record {
    tail = λ w y rid has at e old.
        let g = far_hand f w (Doing (Syncing y)) has at in
        told_next rid (msg.Check p.epoch y.oids) y.oids (check_asks p.epoch y.oids) (open_sync w y rid has at e) s t i (IsPast m (log m (after m h zs)) x.view w.at w.gone_before)
        (λ n below. record {
          upto = below (upto m x) f.view;
          own = below w.at g.0.0.at;
          behind = λ o q less st. let z = g.1.1 o q less st in let b = z.saved.below in let n' = below z.top z.is_past in
              record { at = z.saved.at; entry = z.saved.entry; here = z.saved.here; stands = z.saved.stands; after = z.saved.after; below = omega (arith, b, n'); saves = z.saved.saves };
        }) old;
    token = λ w a y rid has at e old. told_next rid (msg.Token p.epoch (streams_of a.draft)) (streams_of a.draft) (token_asks p.epoch (streams_of a.draft)) (open_token w a y rid has at e) s t i (λ pos. upto m x ≤ pos) (λ n below. below (upto m x) f.view) old;
  }
