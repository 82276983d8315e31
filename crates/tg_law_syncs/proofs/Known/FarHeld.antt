-- Over a run, what lies below each client's later tails.
use Rattle.std.proofs.Common.{◌≡◌, ◌⊎◌, ℕ, ◌+◌, ◌-◌, ◌<◌, ◌≤◌, List, [], ◌∷◌, ◌++◌, length, Bool, true, refl, sym, ap, ◌∙◌, subst, inl, inr, arith, Some, Option, append-nil}
use Rattle.std.specs.Prelude.{slice_index_or, nat_lt, ◌&&◌}
use Rattle.tg_base.specs.Clusters.{Header}
use Rattle.tg_base.specs.Layouts.{Layout}
use Rattle.tg_base.specs.declared.cell.Cell.{Cell}
use Rattle.tg_base.specs.declared.ids.Oid.{Oid}
use Rattle.tg_base.specs.declared.ids.Role.TheVariants as role
use Rattle.tg_base.specs.declared.marks.StreamLink.{StreamLink}
use Rattle.tg_base.specs.declared.msg.Msg.{Msg}
use Rattle.tg_base.specs.declared.msg.Msg.TheVariants as msg
use Rattle.tg_base.specs.declared.packet.Out.{Out}
use Rattle.tg_base.specs.declared.packet.Packet.{Packet}
use Rattle.tg_kind.specs.Meaning.{Meaning}
use Rattle.tg_model.specs.Kinds.{EventOf}
use Rattle.tg_base.specs.Orders.{node_eq}
use Rattle.tg_protocol.specs.Words.{client_id, seqr_id, layout_id, numbers}
use Rattle.tg_protocol.specs.Entries.{streams_of}
use Rattle.tg_protocol.specs.Requests.{awaits, Next, Goes, Learns, Ends}
use Rattle.tg_protocol.specs.Replies.{reply, IsTail, IsIssued, IsLatest}
use Rattle.tg_protocol.specs.Cells.{Place, CellJob, CellEnd, Done, Gone, cell_asks, cell_feed}
use Rattle.tg_protocol.specs.Appending.{AppendWork, Asking, Putting, Judging, Append, append_work_asks, append_again}
use Rattle.tg_protocol.specs.Syncing.{Answer, SyncWork, Checking, Settling, Sync, sync_work_asks}
use Rattle.tg_protocol.specs.Walking.{Walk, job_asks, walk_again}
use Rattle.tg_protocol.specs.Reconfiguring.{Reconf, ReconfWork, Stage, Preparing, Accepting, ReconfEnd, Installed, Overtaken, NotWhole, ReconfTurn, reconf_feed, reconf_latest}
use Rattle.tg_protocol.specs.Logs.{Log}
use Rattle.tg_protocol.specs.Clients.{Purpose, Task, Syncing, Walking, Appending, Trimming, Copying', Reconfiguring, Hand, Doing, Work, Client, new_client, upto}
use Rattle.tg_protocol.specs.ClientSteps.{ClientTurn, task_asks, task_awaited, task_in, after_turn, reconf_to, on_reconf}
use Rattle.tg_protocol.specs.Layouts.{first_layout}
use Rattle.tg_protocol.specs.LayoutServers.{layout_step}
use Rattle.tg_protocol.specs.Sequencers.{SeqrState, SeqrTurn, new_seqr}
use Rattle.tg_protocol.specs.Worlds.{World, start, log, happens, next_event}
use Rattle.tg_protocol.specs.Runs.{Moves, Next as Counts', Takes, run, Reaches}
use Rattle.tg_law_layouts.specs.Moves.After.{after}
use Rattle.tg_law_layouts.specs.Moves.Configs.{Config, config, client_in, layout_in}
use Rattle.tg_law_layouts.proofs.Moves.Clients.{reserved, work_reserved, hand_reserved}
use Rattle.tg_law_layouts.proofs.Moves.Growth.{unit_quiet, layout_quiet, client_quiet, Quiet}
use Rattle.tg_law_layouts.proofs.Moves.Lists.{contained, at_map, at_set}
use Rattle.tg_law_layouts.proofs.Moves.Members.{Has}
use Rattle.tg_law_layouts.proofs.Moves.Moves.{Cases, Comes, seqr_turn, client_turn, SeqrInput, ClientInput, Commanded, Hears', Ticks', step_cases, run_keeps}
use Rattle.tg_law_layouts.proofs.Moves.Scripts.{run_both}
use Rattle.tg_law_layouts.proofs.Requests.Starts.{All, all_hold}
use Rattle.tg_law_layouts.specs.Layouts.Decisions.{IsOfDecided, TellsDecided}
use Rattle.tg_law_layouts.proofs.Layouts.Deciding.{layouts_are_known}
use Rattle.tg_law_layouts.proofs.Layouts.Decisions.{Pax, pax_keep}
use Rattle.tg_law_layouts.proofs.Layouts.Layouts.{start_pax}
use Rattle.tg_law_layouts.proofs.Layouts.Pax.{WorkerOk, reconf_of, OfEpoch}
use Rattle.tg_law_layouts.proofs.Layouts.Pax as pax
use Rattle.tg_law_layouts.proofs.Layouts.Phases.{phase, stage_epoch, IsProposedNext, Follows, TurnFollows, end_stand, latest_follows, feed_follows}
use Rattle.tg_law_layouts.proofs.Agreement.Proposers.{StageOk, VotingOk, WorkOk}
use Rattle.tg_law_cells.proofs.Cells.Hands as cells
use Rattle.tg_law_cells.proofs.Cells.Jobs.{JobOk, MaybeOk, AppendOk, AppendClaims, SyncOk, SyncClaims, cell_ok}
use Rattle.tg_law_cells.proofs.Cells.Justified.{awaited_ask, EndOk, NextOk, Claims, heard}
use Rattle.tg_law_cells.proofs.Cells.Sent.{Heard, task_claims}
use Rattle.tg_law_cells.proofs.Cells.Stores.{cells_hold}
use Rattle.tg_law_cells.proofs.Entries.Lists.{joined}
use Rattle.tg_law_walks.specs.Lists.Drafted.{DraftsFit}
use Rattle.tg_law_walks.specs.Lists.Lists.{Counts}
use Rattle.tg_law_walks.specs.Lists.Spared.{WasSettled, TrimsWereSpare}
use Rattle.tg_law_walks.specs.Lists.Telling.{tells_links}
use Rattle.tg_law_walks.proofs.Lists.Reached.{before_reached}
use Rattle.tg_law_syncs.proofs.Syncs.Clients.{heard as sync_answer}
use Rattle.tg_law_syncs.proofs.Syncs.Confirming.{settled_by}
use Rattle.tg_law_syncs.proofs.Known.Far.{AppendFar}
use Rattle.tg_law_syncs.proofs.Known.FarTurns.{SyncPast, GoneOk, Onto, NextOnto, NewerOk, TaskHeard, Hears, command_fine, deliver_fine, tick_fine}
use Rattle.tg_law_syncs.proofs.Known.Growing.{FarIn, grows, quiet_tells}
use Rattle.tg_law_syncs.proofs.Known.Past.{Reached', answers_hold, seqrs_reach}
use Rattle.tg_law_syncs.proofs.Known.Reaches.{Reached, Past, Told, past_low, past_down, onto, stay, settled_counts, gone_ok}
use Rattle.tg_law_syncs.proofs.Known.Telling.{check_asks, token_asks, open_sync, open_token, reached, far_hand, seqr_tells}
use Rattle.tg_law_syncs.proofs.Known.Turned.{Met, SyncHas, WalkHas, AppendHas, sync_up, walk_up, walk_again_up, append_up, append_again_up, sync_met, walk_met, append_met, walk_again_none, append_again_none}

pub is_tail : (y : Msg) (t : ℕ) (ls : List StreamLink) → reply y ≡ IsTail t ls → tells_links y ≡ Some (t, ls)
unfolding reply tells_links
is_tail y t ls e = grind arith

is_issued : (y : Msg) (t : ℕ) (ls : List StreamLink) → reply y ≡ IsIssued t ls → tells_links y ≡ Some (t, ls)
unfolding reply tells_links
is_issued y t ls e = grind arith

latest_of : (y : Msg) (q : Layout) → reply y ≡ IsLatest q → y ≡ msg.Latest q
unfolding reply
latest_of y q e = grind arith

is_latest : (m : Meaning) (w : World m) (y : Msg) (q : Layout) → reply y ≡ IsLatest q → TellsDecided m w y → IsOfDecided m w q
is_latest m w y q e d = subst (λ (z : Msg). TellsDecided m w z) (latest_of y q e) d

less_of : (a : Bool) (x y : ℕ) → (a && nat_lt x y) ≡ true → x < y
less_of a x y e = grind arith

pub asked_check : (p : Layout) (s : Sync) (w : SyncWork) (rid : ℕ) → w ≡ Checking rid → (o : Out) → Has (sync_work_asks p s w) o → (o.to ≡ seqr_id p.seq) × (o.rid ≡ rid)
unfolding sync_work_asks
asked_check p s (Checking i) rid e o (inl f) = (ap (λ (y : Out). y.to) f, ap (λ (y : Out). y.rid) f ∙ same i rid e)
  where
    same : (a b : ℕ) → Checking a ≡ Checking b → a ≡ b
    same a b e = cc
asked_check p s (Checking i) rid e o (inr f) = absurd f
asked_check p s v rid e o i = absurd (cc)

asked_token : (p : Layout) (a : Append) (w : AppendWork) (rid : ℕ) → w ≡ Asking rid → (o : Out) → Has (append_work_asks p a w) o → (o.to ≡ seqr_id p.seq) × (o.rid ≡ rid)
unfolding append_work_asks
asked_token p a (Asking i) rid e o (inl f) = (ap (λ (y : Out). y.to) f, ap (λ (y : Out). y.rid) f ∙ same i rid e)
  where
    same : (b c : ℕ) → Asking b ≡ Asking c → b ≡ c
    same b c e = cc
asked_token p a (Asking i) rid e o (inr f) = absurd f
asked_token p a v rid e o i = absurd (cc)

sync_cells : (p : Layout) (s : Sync) (w : SyncWork) (a : Answer) (j : CellJob) → w ≡ Settling a j → (o : Out) → Has (sync_work_asks p s w) o → Has (cell_asks j) o
unfolding sync_work_asks
sync_cells p s w a j e o i = subst (λ (y : SyncWork). Has (sync_work_asks p s y) o) e i

append_cells : (p : Layout) (a : Append) (w : AppendWork) (j : CellJob) → (w ≡ Putting j) ⊎ (w ≡ Judging j) → (o : Out) → Has (append_work_asks p a w) o → Has (cell_asks j) o
unfolding append_work_asks
append_cells p a w j (inl e) o i = subst (λ (y : AppendWork). Has (append_work_asks p a y) o) e i
append_cells p a w j (inr e) o i = subst (λ (y : AppendWork). Has (append_work_asks p a y) o) e i

-- a reconfiguration that votes proposes a layout of the next epoch
module _ (m : Meaning) (n k : ℕ) (ps : List Packet) (p : Layout) where
  pub proposed_next : (r : Reconf) → WorkerOk m n k ps p r → IsProposedNext r
  proposed_next r o v is = by (subst (λ (w : ReconfWork). WorkOk r.stand r.change n k (OfEpoch (r.stand.epoch + 1)) ps r w) is o.ok.work).1 v.stage refl
    where
      by : VotingOk (r.stand.epoch + 1) n k (OfEpoch (r.stand.epoch + 1)) ps v → (s : Stage) → v.stage ≡ s → stage_epoch s (r.stand.epoch + 1) ≡ r.stand.epoch + 1
      by g (Preparing ws hs) e = refl
      by g (Accepting ws i q) e = (subst (λ (s : Stage). StageOk (r.stand.epoch + 1) n k (OfEpoch (r.stand.epoch + 1)) ps v.round s) e g.stage).allowed

module _ (m : Meaning) (h : Header) (zs : Moves m) (r : Reaches m h zs (after m h zs)) (trims : TrimsWereSpare m h zs) (fit : DraftsFit m (after m h zs)) where
  abbrev l : Log
  l = log m (after m h zs)

  abbrev D : Layout → Type 0
  D q = IsOfDecided m (after m h zs) q

  -- of all clients, where each stands at a decided layout
  pub record Held (c : Config m) : Type 0 where
    pub clients : (k : ℕ) → FarIn m h zs r trims fit c k (client_in m c k)

  abbrev Stand : Config m → Type 0
  Stand c = (k : ℕ) → IsOfDecided m (after m h zs) (client_in m c k).stand

  module _ (xs : Moves m) (e : EventOf m) (ys : Moves m) (split : zs ≡ xs ++ Takes e ∷ ys) (held : Held (config m (after m h xs))) where
    abbrev c : Config m
    c = config m (after m h xs)

    rw : Reaches m h xs (after m h xs)
    rw = before_reached m h zs r xs (Takes e ∷ ys) split

    all : All m (config m (after m h xs))
    all = all_hold m h xs

    -- others take their turns

    quiet : (d : Config m) → Quiet m role.Seqr c d → (k : ℕ) (x : Client m) → FarIn m h zs r trims fit c k x → FarIn m h zs r trims fit d k x
    quiet d q k x f = grows m h zs r trims fit c d k x
        (λ s j t g. subst (λ (ss : List SeqrState). Reached' (slice_index_or ss s (new_seqr s d.cluster.limit (first_layout d.cluster))) j t) (sym (q.seqrs refl))
        (subst (λ (hd : Header). Reached' (slice_index_or c.seqrs s (new_seqr s hd.limit (first_layout hd))) j t) (sym q.cluster) g))
        (quiet_tells m h zs r trims fit c d k x q.old) f

    -- What a client hears.

    module _ (k : ℕ) (x : Packet) (comes : Comes m (config m (after m h xs)) x (client_id k)) where
      abbrev cl : Client m
      cl = client_in m (config m (after m h xs)) k

      abbrev p : Layout
      p = (client_in m (config m (after m h xs)) k).stand

      dp : IsOfDecided m (after m h xs) p
      dp = (layouts_are_known m h xs (after m h xs) rw).clients k

      abbrev Gone' : ℕ → Type 0
      Gone' g = GoneOk m (log m (after m h zs)) (Reached m h zs r trims fit c) (Past m h zs r trims fit c) (Told m h zs r trims fit c k) p g

      module _ (w : Work m) (t : Task m) (works : cl.work ≡ Some w) (hand : w.hand ≡ Doing t) (awaited : awaits (task_awaited m p t) x.from x.rid ≡ true) where
        asks_open : (o : Out) → Has (task_awaited m p t) o → Has (reserved m cl) o
        asks_open o g = subst (λ (v : Option (Work m)). Has (work_reserved m p v) o) (sym works) (subst (λ (d : Hand m). Has (hand_reserved m p d) o) (sym hand) g)

        in_hand : cells.TaskOk m (after m h xs).packets p t
        in_hand = subst (λ (d : Hand m). cells.HandOk m (after m h xs).packets p d) hand (subst (λ (o : Option (Work m)). cells.WorkOk m (after m h xs).packets p o) works ((cells_hold m h xs).hands k))

        hears : Heard (after m h xs).packets x.from x.rid x.msg (reserved m cl)
        hears o g to number u from y is = (heard m (config m (after m h xs)) all.0.0 all.0.1 k u o x g comes.sent comes.to_node from to number).tells y is

        claims : cells.TaskClaims m (after m h xs).packets p t x.msg
        claims = task_claims (after m h xs).packets x.from x.rid x.msg m p t awaited
            (subst (λ (d : Hand m). Heard (after m h xs).packets x.from x.rid x.msg (hand_reserved m p d)) hand
            (subst (λ (o : Option (Work m)). Heard (after m h xs).packets x.from x.rid x.msg (work_reserved m p o)) works hears))

        met_ok : (Has' : CellJob → Type 0) (g : ℕ) → ((j : CellJob) → Has' j → JobOk (after m h xs).packets p j × ((o : Out) → Has (task_awaited m p t) o → Has (cell_asks j) o)) → Met Has' x.from.num (reply x.msg) cl.next g → Gone' g
        met_ok Has' g f (inl z) = subst Gone' (sym z) (λ o q less. absurd (omega (arith, less)))
        met_ok Has' g f (inr b) = let o = f b.job b.has in gone_ok m h zs r trims fit xs e ys split k x comes (task_awaited m p t) awaited asks_open b.job g o.0 o.1 b.ends

        -- the cell that a machine ends with was settled in time
        was_settled : (j : CellJob) (d : Cell) → JobOk (after m h xs).packets p j → Claims (after m h xs).packets j.place j.work x.msg → (cell_feed j x.from.num (reply x.msg) cl.next).to ≡ Ends (Done d) → WasSettled m (after m h xs) p.epoch j.place.pos
        was_settled j d o y f =
            let end = subst (λ (q : Place). EndOk (after m h xs).packets q (Done d)) o.place (subst (λ (z : Next CellJob CellEnd). NextOk (after m h xs).packets j.place z) f (cell_ok (after m h xs).packets p j x.msg o y x.from.num cl.next)) in
            let s = settled_by m h xs (Takes e ∷ ys) (subst (λ (ms : Moves m). Reaches m h ms (after m h ms)) split r) (subst (λ (ms : Moves m). TrimsWereSpare m h ms) split trims) (subst (λ (ms : Moves m). DraftsFit m (after m h ms)) split fit) k j.place.pos d end in
            record { cell = d; settled = s.settled; in_time = s.in_time }

      -- of a sync
      sync_hears : (w : Work m) (s : Sync) → cl.work ≡ Some w → w.hand ≡ Doing (Syncing s) → awaits (task_awaited m p (Syncing s)) x.from x.rid ≡ true
          → TaskHeard m (log m (after m h zs)) (Reached m h zs r trims fit c) (Past m h zs r trims fit c) (Told m h zs r trims fit c k) D cl.next cl w (Syncing s) x.from.num x.rid (reply x.msg)
      unfolding task_asks
      sync_hears w s works hand awaited = (
        record {
          tail = λ rid t ls at is.
              let a = awaited_ask (task_awaited m p (Syncing s)) x.from x.rid awaited in
              let o = asked_check p s s.work rid at a.ask a.has in
              let g = far_hand m h zs r trims fit xs (Takes e ∷ ys) split k (held.clients k) w (Doing (Syncing s)) works hand in
              let old = subst (λ (v : SyncWork). SyncPast m (log m (after m h zs)) (Reached m h zs r trims fit c) (Past m h zs r trims fit c) (Told m h zs r trims fit c k) p cl.view w.at w.gone_before v) at g.1.0 in
              let from = sym a.to ∙ o.0 in
              let number = sym a.number ∙ o.1 in (
                old x comes.sent comes.to_node from number t ls (is_tail x.msg t ls is),
                reached m h zs r trims fit xs (Takes e ∷ ys) split k rid (msg.Check p.epoch s.oids) s.oids (check_asks p.epoch s.oids) (open_sync m h zs r trims fit xs (Takes e ∷ ys) split k w s rid works hand at) x comes.sent comes.to_node from number t ls (is_tail x.msg t ls is),
              );
          gone = λ a j b at pos ends so. inr (so, trim_counts a j b at pos ends);
          done = λ a j d at pos ends so. inr (
            so,
            settled_counts m h zs r trims fit xs (Takes e ∷ ys) split p j.place.pos a.tail (last a.tail j.place.pos pos) dp
                (was_settled w (Syncing s) works hand awaited j d (job a j at) (subst (λ (v : SyncWork). SyncClaims (after m h xs).packets p v x.msg) at (claims w (Syncing s) works hand awaited)) ends),
          );
        },
        record {
          up = sync_up p s x.from.num (reply x.msg) cl.next;
          gone = met_ok w (Syncing s) works hand awaited (SyncHas s.work) _ (λ j y. (job y.0 j y.1, sync_cells p s s.work y.0 j y.1)) (sync_met x.from.num (reply x.msg) cl.next p s);
        },
      )
        where
          last : (t q : ℕ) → q ≡ t - 1 → t ≤ q + 1
          last t q e = grind arith

          job : (a : Answer) (j : CellJob) → s.work ≡ Settling a j → JobOk (after m h xs).packets p j
          job a j at = subst (λ (v : SyncWork). SyncOk (after m h xs).packets p v) at (in_hand w (Syncing s) works hand awaited)

          trim_counts : (a : Answer) (j : CellJob) (b : ℕ) → s.work ≡ Settling a j → j.place.pos ≡ a.tail - 1 → (cell_feed j x.from.num (reply x.msg) cl.next).to ≡ Ends (Gone b) → Counts m (after m h zs) p.epoch a.tail
          trim_counts a j b at pos ends = (sync_answer m h zs r trims fit xs e ys split k x comes w s works hand awaited).gone a j b at pos ends

      -- of a walk
      walk_hears : (w : Work m) (v : Walk) (os : List Oid) → cl.work ≡ Some w → w.hand ≡ Doing (Walking v os) → awaits (task_awaited m p (Walking v os)) x.from x.rid ≡ true
          → TaskHeard m (log m (after m h zs)) (Reached m h zs r trims fit c) (Past m h zs r trims fit c) (Told m h zs r trims fit c k) D cl.next cl w (Walking v os) x.from.num x.rid (reply x.msg)
      unfolding task_asks
      walk_hears w v os works hand awaited = record {
        up = walk_up p v x.from.num (reply x.msg) cl.next;
        gone = met_ok w (Walking v os) works hand awaited (WalkHas v.job) _ (λ j y. (subst (λ (o : Option CellJob). MaybeOk (after m h xs).packets p o) y (in_hand w (Walking v os) works hand awaited), λ o i. subst (λ (z : Option CellJob). Has (job_asks z) o) y i)) (walk_met x.from.num (reply x.msg) cl.next p v);
      }

      -- of an append
      append_hears : (w : Work m) (a : Append) (y : Purpose m) → cl.work ≡ Some w → w.hand ≡ Doing (Appending a y) → awaits (task_awaited m p (Appending a y)) x.from x.rid ≡ true
          → TaskHeard m (log m (after m h zs)) (Reached m h zs r trims fit c) (Past m h zs r trims fit c) (Told m h zs r trims fit c k) D cl.next cl w (Appending a y) x.from.num x.rid (reply x.msg)
      unfolding task_asks
      append_hears w a y works hand awaited = (
        record {
          issued = λ rid t ls at is.
              let b = awaited_ask (task_awaited m p (Appending a y)) x.from x.rid awaited in
              let o = asked_token p a a.work rid at b.ask b.has in
              let g = far_hand m h zs r trims fit xs (Takes e ∷ ys) split k (held.clients k) w (Doing (Appending a y)) works hand in
              let old = subst (λ (v : AppendWork). AppendFar p (Reached m h zs r trims fit c p) (Past m h zs r trims fit c p) (Told m h zs r trims fit c k p) (upto m cl) a.token v) at g.1 in
              let from = sym b.to ∙ o.0 in
              let number = sym b.number ∙ o.1 in (
                old x comes.sent comes.to_node from number t ls (is_issued x.msg t ls is),
                reached m h zs r trims fit xs (Takes e ∷ ys) split k rid (msg.Token p.epoch (streams_of a.draft)) (streams_of a.draft) (token_asks p.epoch (streams_of a.draft)) (open_token m h zs r trims fit xs (Takes e ∷ ys) split k w a y rid works hand at) x comes.sent comes.to_node from number t ls (is_issued x.msg t ls is),
              );
          done = λ j d at ends so. inr (
            so,
            settled_counts m h zs r trims fit xs (Takes e ∷ ys) split p j.place.pos j.place.pos (omega arith) dp
                (was_settled w (Appending a y) works hand awaited j d (job j (inl at)) (subst (λ (v : AppendWork). AppendClaims (after m h xs).packets p v x.msg) at (claims w (Appending a y) works hand awaited)) ends),
          );
        },
        record {
          up = append_up p a x.from.num (reply x.msg) cl.next;
          gone = met_ok w (Appending a y) works hand awaited (AppendHas a.work) _ (λ j i. (job j i, append_cells p a a.work j i)) (append_met x.from.num (reply x.msg) cl.next p a);
        },
      )
        where
          job : (j : CellJob) → (a.work ≡ Putting j) ⊎ (a.work ≡ Judging j) → JobOk (after m h xs).packets p j
          job j (inl at) = subst (λ (v : AppendWork). AppendOk (after m h xs).packets p v) at (in_hand w (Appending a y) works hand awaited)
          job j (inr at) = subst (λ (v : AppendWork). AppendOk (after m h xs).packets p v) at (in_hand w (Appending a y) works hand awaited)

      -- of a reconfiguration: it goes on in its layout or in a later one
      worker : (w : Work m) (q : Reconf) → cl.work ≡ Some w → task_in m w.hand ≡ Reconfiguring q → WorkerOk m c.cluster.layouts k (after m h xs).packets p q
      worker w q works hand = subst (λ (o : Option Reconf). pax.HandOk m c.cluster.layouts k (after m h xs).packets p o) (ap (λ (t : Task m). pax.task_reconf m t) hand)
          (subst (λ (o : Option (Work m)). pax.HandOk m c.cluster.layouts k (after m h xs).packets p (reconf_of m o)) works ((run_keeps m (Pax m) (pax_keep m) xs (start m h) (start_pax m h)).clients k))

      same_onto : (q : Layout) → q ≡ p → Onto m (log m (after m h zs)) (Reached m h zs r trims fit c) (Past m h zs r trims fit c) (Told m h zs r trims fit c k) p q
      same_onto q i = λ t f. subst (λ (z : Layout). Past m h zs r trims fit c z t) (sym i) f

      later_onto : (q : Layout) → p.epoch < q.epoch → IsOfDecided m (after m h zs) q → Onto m (log m (after m h zs)) (Reached m h zs r trims fit c) (Past m h zs r trims fit c) (Told m h zs r trims fit c k) p q
      later_onto q less d = onto m h zs r trims fit c p q (stay m h zs r trims fit xs (Takes e ∷ ys) split p dp) d less

      reconf_onto : (w : Work m) (q : Reconf) (t : ReconfTurn) → q.stand ≡ p → TurnFollows q t → D (on_reconf m cl w t).now.stand → NextOnto m (log m (after m h zs)) (Reached m h zs r trims fit c) (Past m h zs r trims fit c) (Told m h zs r trims fit c k) p t.to
      reconf_onto w q t at f = by t.to refl
        where
          abbrev_goes : (s : Reconf) → Follows q s → D s.stand → Onto m (log m (after m h zs)) (Reached m h zs r trims fit c) (Past m h zs r trims fit c) (Told m h zs r trims fit c k) p s.stand
          abbrev_goes s g d = which g.stand
            where
              which : ((s.stand ≡ q.stand) × ((phase s.work ≡ 1) ⊎ (phase s.work ≡ phase q.work))) ⊎ ((q.stand.epoch < s.stand.epoch) × (phase s.work ≡ 2)) → Onto m (log m (after m h zs)) (Reached m h zs r trims fit c) (Past m h zs r trims fit c) (Told m h zs r trims fit c k) p s.stand
              which (inl i) = same_onto s.stand (i.0 ∙ at)
              which (inr i) = later_onto s.stand (let a = i.0 in let b = ap (λ (z : Layout). z.epoch) at in omega (arith, a, b)) d

          ends_by : (x : ReconfEnd) → ((end_stand x ≡ q.stand) × (phase q.work ≡ 1 → ⊥)) ⊎ (q.stand.epoch < (end_stand x).epoch) → D (end_stand x) → Onto m (log m (after m h zs)) (Reached m h zs r trims fit c) (Past m h zs r trims fit c) (Told m h zs r trims fit c k) p (end_stand x)
          ends_by x (inl i) d = same_onto (end_stand x) (i.0 ∙ at)
          ends_by x (inr i) d = later_onto (end_stand x) (let b = ap (λ (z : Layout). z.epoch) at in omega (arith, i, b)) d

          by : (to : Next Reconf ReconfEnd) → t.to ≡ to → D (reconf_to m (after_turn m cl t) w to).now.stand → NextOnto m (log m (after m h zs)) (Reached m h zs r trims fit c) (Past m h zs r trims fit c) (Told m h zs r trims fit c k) p to
          by (Goes s) i d = abbrev_goes s (f.goes s i) d
          by (Learns s) i d = tt
          by (Ends (Installed a q')) i d = ends_by (Installed a q') (f.ends (Installed a q') i) d
          by (Ends (Overtaken a q')) i d = ends_by (Overtaken a q') (f.ends (Overtaken a q') i) d
          by (Ends (NotWhole a b q')) i d = ends_by (NotWhole a b q') (f.ends (NotWhole a b q') i) d

      hears_task : (w : Work m) (t : Task m) → cl.work ≡ Some w → w.hand ≡ Doing t → awaits (task_awaited m p t) x.from x.rid ≡ true
          → TaskHeard m (log m (after m h zs)) (Reached m h zs r trims fit c) (Past m h zs r trims fit c) (Told m h zs r trims fit c k) D cl.next cl w t x.from.num x.rid (reply x.msg)
      hears_task w (Syncing s) works hand awaited = sync_hears w s works hand awaited
      hears_task w (Walking v os) works hand awaited = walk_hears w v os works hand awaited
      hears_task w (Appending a y) works hand awaited = append_hears w a y works hand awaited
      hears_task w (Trimming t) works hand awaited = tt
      hears_task w (Copying' y) works hand awaited = tt
      hears_task w (Reconfiguring q) works hand awaited = λ d.
          let o = worker w q works (ap (λ (v : Hand m). task_in m v) hand) in
          reconf_onto w q (reconf_feed q q.work x.from.num x.rid (reply x.msg) cl.next) o.stand (feed_follows q x.from.num x.rid (reply x.msg) cl.next o.told (proposed_next m c.cluster.layouts k (after m h xs).packets p q o)) d

      -- a newer layout
      none : (q : Layout) (g : ℕ) → g ≡ 0 → GoneOk m (log m (after m h zs)) (Reached m h zs r trims fit c) (Past m h zs r trims fit c) (Told m h zs r trims fit c k) q g
      none q g z o i less = absurd (omega (arith, less, z))

      hears_newer : (w : Work m) (q : Layout) (t : Task m) → task_in m w.hand ≡ t → cl.work ≡ Some w → p.epoch < q.epoch → IsOfDecided m (after m h zs) q
          → NewerOk m (log m (after m h zs)) (Reached m h zs r trims fit c) (Past m h zs r trims fit c) (Told m h zs r trims fit c k) D cl.next cl w t x.from.num x.rid q
      hears_newer w q (Reconfiguring s) at works less d = λ n. let o = worker w s works at in reconf_onto w s (reconf_latest s s.work x.from.num x.rid q cl.next) o.stand
          (latest_follows s x.from.num x.rid q cl.next o.told (let b = ap (λ (z : Layout). z.epoch) o.stand in omega (arith, less, b))) n
      hears_newer w q (Syncing s) at works less d = later_onto q less d
      hears_newer w q (Walking v os) at works less d = (later_onto q less d, record { up = walk_again_up q v cl.next; gone = none q (walk_again q v cl.next).gone (walk_again_none q v cl.next) })
      hears_newer w q (Appending a y) at works less d = (later_onto q less d, record { up = append_again_up q a cl.next; gone = none q (append_again q a cl.next).gone (append_again_none q a cl.next) })
      hears_newer w q (Trimming t) at works less d = later_onto q less d
      hears_newer w q (Copying' y) at works less d = later_onto q less d

      pub hears_all : Hears m (log m (after m h zs)) (Reached m h zs r trims fit c) (Past m h zs r trims fit c) (Told m h zs r trims fit c k) D cl.next cl x.from x.rid x.msg
      hears_all = record {
        answer = hears_task;
        newer = λ w q works is b. hears_newer w q (task_in m w.hand) refl works (less_of (node_eq x.from (layout_id x.from.num)) cl.stand.epoch q.epoch b)
            (stay m h zs r trims fit xs (Takes e ∷ ys) split q (is_latest m (after m h xs) x.msg q is ((layouts_are_known m h xs (after m h xs) rw).sent x (contained _ x comes.sent))));
      }

    -- A step.

    pub none_told : (k : ℕ) (q : Layout) (rid : ℕ) (G : ℕ → Type 0) → (client_in m c k).next ≤ rid → Told m h zs r trims fit c k q rid G
    none_told k q rid G le a g to from number t ls tells =
        let b = (answers_hold m h xs).1.each q.seq a t ls g from tells in
        let less = (all.0.0.clients k).below b.ask b.has (b.from ∙ to) b.request in
        let i = b.rid ∙ number in
        absurd (omega (arith, less, i, le))

    turned : (k : ℕ) (t : ClientTurn m) → ClientInput m c k t → D t.now.stand → FarIn m h zs r trims fit c k t.now
    turned k t (Commanded x) d = command_fine m (log m (after m h zs)) (Reached m h zs r trims fit c) (Past m h zs r trims fit c) (Told m h zs r trims fit c k) (past_low m h zs r trims fit c) (past_down m h zs r trims fit c) (client_in m c k).next (none_told k) D (client_in m c k) x (omega arith) (held.clients k)
    turned k t (Hears' x comes) d = deliver_fine m (log m (after m h zs)) (Reached m h zs r trims fit c) (Past m h zs r trims fit c) (Told m h zs r trims fit c k) (past_low m h zs r trims fit c) (past_down m h zs r trims fit c) (client_in m c k).next (none_told k) D (client_in m c k) x.from x.rid x.msg (omega arith) (held.clients k) (hears_all k x comes) d
    turned k t Ticks' d = tick_fine m (log m (after m h zs)) (Reached m h zs r trims fit c) (Past m h zs r trims fit c) (Told m h zs r trims fit c k) (past_low m h zs r trims fit c) (past_down m h zs r trims fit c) (client_in m c k).next (none_told k) D (client_in m c k) (held.clients k)

    by_client' : (k : ℕ) (t : ClientTurn m) → ClientInput m c k t → k < length c.clients → Stand (client_turn m c k t) → Held (client_turn m c k t)
    by_client' k t i less stand = record {
      clients = λ j. quiet (client_turn m c k t) (client_quiet m role.Seqr (λ e. cc) c k t) j (client_in m (client_turn m c k t) j)
          (at_set c.clients k t.now (new_client m c.cluster) (λ n x. D x.stand → FarIn m h zs r trims fit c n x) less (turned k t i) (λ n other d. held.clients n) j (stand j));
    }

    by_seqr' : (s : ℕ) (t : SeqrTurn) → SeqrInput m c s t → s < length c.seqrs → Held (seqr_turn m c s t)
    by_seqr' s t i less = record {
      clients = λ k. grows m h zs r trims fit c (seqr_turn m c s t) k (client_in m c k) (λ j e p f. seqrs_reach m c (answers_hold m h xs).0 s t i less j e p f)
          (seqr_tells m h zs r trims fit xs (Takes e ∷ ys) split k (held.clients k) s t i) (held.clients k);
    }

    cases : Cases m c (λ d. Stand d → Held d)
    cases = record {
      idle = λ stand. held;
      unit = λ u q a less stand. record { clients = λ k. quiet _ (unit_quiet m role.Seqr (λ e. cc) c u q a less) k (client_in m c k) (held.clients k) };
      layout = λ n q a less stand. record { clients = λ k. quiet _ (layout_quiet m role.Seqr (λ e. cc) c n q (layout_step (layout_in m c n) q.msg) a) k (client_in m c k) (held.clients k) };
      seqr = λ s t i less stand. by_seqr' s t i less;
      client = by_client';
    }

    stepped : Stand (config m (happens m (after m h xs) e)) → Held (config m (happens m (after m h xs) e))
    stepped = step_cases m (after m h xs) (λ d. Stand d → Held d) cases e

  -- Along the run.

  then_takes : (xs : Moves m) (e : EventOf m) → after m h (xs ++ Takes e ∷ []) ≡ happens m (after m h xs) e
  unfolding run
  then_takes xs e = run_both m xs (Takes e ∷ []) (start m h)

  then_next : (xs : Moves m) → after m h (xs ++ Counts' ∷ []) ≡ next_event m (after m h xs)
  unfolding run
  then_next xs = run_both m xs (Counts' ∷ []) (start m h)

  stands_at : (xs ys : Moves m) → zs ≡ xs ++ ys → Stand (config m (after m h xs))
  stands_at xs ys e k = stay m h zs r trims fit xs ys e (client_in m (config m (after m h xs)) k).stand ((layouts_are_known m h xs (after m h xs) (before_reached m h zs r xs ys e)).clients k)

  held_on : (xs ms ys : Moves m) → zs ≡ xs ++ (ms ++ ys) → Held (config m (after m h xs)) → Held (config m (after m h (xs ++ ms)))
  held_on xs [] ys e a = subst (λ (us : Moves m). Held (config m (after m h us))) (sym (append-nil xs)) a
  held_on xs (Counts' ∷ ms) ys e a =
      subst (λ (us : Moves m). Held (config m (after m h us))) (joined xs (Counts' ∷ []) ms)
      (held_on (xs ++ Counts' ∷ []) ms ys (e ∙ sym (joined xs (Counts' ∷ []) (ms ++ ys))) (subst (λ (u : World m). Held (config m u)) (sym (then_next xs)) (record { clients = λ k. quiet_next xs k (a.clients k) })))
    where
      quiet_next : (xs : Moves m) (k : ℕ) → FarIn m h zs r trims fit (config m (after m h xs)) k (client_in m (config m (after m h xs)) k) → FarIn m h zs r trims fit (config m (next_event m (after m h xs))) k (client_in m (config m (next_event m (after m h xs))) k)
      quiet_next xs k f = f
  held_on xs (Takes x ∷ ms) ys e a =
      subst (λ (us : Moves m). Held (config m (after m h us))) (joined xs (Takes x ∷ []) ms)
      (held_on (xs ++ Takes x ∷ []) ms ys (e ∙ sym (joined xs (Takes x ∷ []) (ms ++ ys)))
      (subst (λ (u : World m). Held (config m u)) (sym (then_takes xs x))
      (stepped xs x (ms ++ ys) e a (subst (λ (u : World m). Stand (config m u)) (then_takes xs x) (stands_at (xs ++ Takes x ∷ []) (ms ++ ys) (e ∙ sym (joined xs (Takes x ∷ []) (ms ++ ys))))))))

  start_far : (k j : ℕ) → FarIn m h zs r trims fit (config m (after m h [])) k (new_client m h j)
  unfolding new_client
  start_far k j = record { view = inl (omega arith); work = tt }

  start_held : Held (config m (after m h []))
  unfolding run start
  start_held = record { clients = λ k. at_map (new_client m h) (numbers h.clients 0) k (new_client m h k) (λ (x : Client m). FarIn m h zs r trims fit (config m (start m h)) k x) (λ j. start_far k j) (start_far k k) }

  pub far_at : (xs ys : Moves m) → zs ≡ xs ++ ys → Held (config m (after m h xs))
  far_at xs ys e = held_on [] xs ys e start_held
