-- A step of a world keeps its clients right, and what is told in it is true of the log.
use Rattle.std.proofs.Common.{◌≡◌, ◌⊎◌, ℕ, zero, suc, ◌+◌, List, [], ◌∷◌, ◌++◌, map, Bool, true, false, refl, sym, ap, ◌∙◌, subst, inl, inr, arith, Option, Some, None, is_some, length}
use Rattle.std.specs.Prelude.{not, slice_set, slice_index_or, slice_get, ◌==◌}
use Rattle.tg_base.specs.declared.ids.NodeId.{NodeId}
use Rattle.tg_base.specs.declared.ids.Oid.{Oid}
use Rattle.tg_base.specs.declared.ids.Role.{Role}
use Rattle.tg_base.specs.declared.ids.Role.TheVariants as role
use Rattle.tg_base.specs.declared.packet.Out.{Out}
use Rattle.tg_base.specs.declared.packet.Packet.{Packet}
use Rattle.tg_kind.specs.Meaning.{Meaning}
use Rattle.tg_model.specs.declared.command.Command.TheVariants as cmd
use Rattle.tg_model.specs.declared.command.Event.TheVariants.{Command as Commands, Deliver, Lose, Tick, Stop}
use Rattle.tg_model.specs.declared.refusal.Refusal.{Refusal}
use Rattle.tg_model.specs.declared.refusal.Refusal.TheVariants as cause
use Rattle.tg_model.specs.declared.trace.What.TheVariants as told
use Rattle.tg_model.specs.Kinds.{CommandOf, EventOf, WhatOf, NoteOf}
use Rattle.tg_base.specs.Orders.{node_eq, role_number}
use Rattle.tg_protocol.specs.Words.{first_some, where_true, client_id}
use Rattle.tg_protocol.specs.Replies.{reply}
use Rattle.tg_protocol.specs.Views.{Entries, View, state_of, view_version}
use Rattle.tg_protocol.specs.Transactions.{Tx, tx_read, tx_put, open_tx, commit_record}
use Rattle.tg_protocol.specs.Clients.{Purpose, Task, Reconfiguring, tests, busy, no_tx, Work, Client, new_client, write_of, number_on, refusal}
use Rattle.tg_protocol.specs.Answers.{Moved, moved, note, closed, appends, syncs}
use Rattle.tg_protocol.specs.ClientSteps.{goes_on, feed, new_work, snapshot_or, tx_of, refused_or, ClientTurn, called, given, client_command, client_deliver, tick_by, client_tick}
use Rattle.tg_protocol.specs.Worlds.{World, Told, client, unit_moves, layout_moves, seqr_moves, client_turned, moves, comes, handed, delivers, noted_if, commands, ticks, ticks_if, stops_if, mark_of, counted, happens, runs, sends}
use Rattle.tg_law_steps.proofs.Takes.{IsFor, ForWrites, ForJudged, HostsAlready, Hosts, Begins, Puts, Asks, ReadsOnly, Drops, Taken, SaidAtOnce, SyncsFirst, AppendsRecord, ReconfBegins, CopyBegins}
use Rattle.tg_law_steps.proofs.Along.{commanded}
use Rattle.tg_law_replies.specs.Plays.Sound.{IsRising}
use Rattle.tg_law_replies.specs.History.Logs.{AreListed}
use Rattle.tg_law_replies.proofs.History.Members.{Has, both_and, same_number, number_same}
use Rattle.tg_law_replies.specs.Views.Looking.{IsTrueAt}
use Rattle.tg_law_replies.specs.Replies.Steps.{EachDelivery, EachEvent}
use Rattle.tg_law_replies.specs.Replies.Ended.{work_ends, handed_ends, packet_ends, ended_in}
use Rattle.tg_law_replies.proofs.Replies.Ready.{Ready}
use Rattle.tg_law_replies.proofs.Replies.Shape.{StandsIn}
use Rattle.tg_law_replies.proofs.Replies.Books.{IsPlain}
use Rattle.tg_law_replies.proofs.Replies.Moves.{TruePurpose, TrueTask, IsRight, InStep, IsBooked, IsRightMove, TrueWhat, TrueNotes, IsBlind, one_note, one_plain, commit_draft, answer_there, version_there, appends_right}
use Rattle.tg_law_replies.proofs.Replies.Upkeep.{syncs_right}
use Rattle.tg_law_replies.proofs.Replies.Turns.{LandsBy, feed_right, goes_right, still}
use Rattle.tg_protocol.specs.Runs.{LawfulCommand}
use Rattle.tg_protocol.specs.Holding.{append_by}
use Rattle.tg_law_layouts.proofs.Moves.Puts.{put_short}
use Rattle.tg_law_layouts.proofs.Moves.Turns.{not_busy}

-- an element of a list where one was set
pub set_at : {X : Type 0} → (xs : List X) (i : ℕ) (y : X) (k : ℕ) (d : X) → (slice_index_or (slice_set xs i y) k d ≡ y) ⊎ (slice_index_or (slice_set xs i y) k d ≡ slice_index_or xs k d)
set_at [] i y k d = inr refl
set_at (x ∷ xs) zero y zero d = inl refl
set_at (x ∷ xs) zero y (suc k) d = inr refl
set_at (x ∷ xs) (suc i) y zero d = inr refl
set_at (x ∷ xs) (suc i) y (suc k) d = set_at xs i y k d

has_either : {X : Type 0} → (xs ys : List X) (x : X) → Has (xs ++ ys) x → Has xs x ⊎ Has ys x
has_either [] ys x i = inr i
has_either (y ∷ xs) ys x (inl e) = inl (inl e)
has_either (y ∷ xs) ys x (inr i) = by (has_either xs ys x i)
  where
    by : Has xs x ⊎ Has ys x → Has (y ∷ xs) x ⊎ Has ys x
    by (inl j) = inl (inr j)
    by (inr j) = inr j

has_image : {X Y : Type 0} → (f : X → Y) (xs : List X) (y : Y) → Has (map f xs) y → (x : X) × Has xs x × (y ≡ f x)
has_image f [] y i = absurd i
has_image f (x ∷ xs) y (inl e) = (x, inl refl, e)
has_image f (x ∷ xs) y (inr i) = let r = has_image f xs y i in (r.0, inr r.1, r.2)

-- An op that is put, where the command isn't refused, has a spelling.

module _ (m : Meaning) where
  abbrev pub IsSpelled : CommandOf m → Type 0
  IsSpelled (cmd.Put o op) = m.read o (m.spell op) ≡ Some op
  IsSpelled x = Unit {0}

  abbrev pub LawfulIn : EventOf m → Type 0
  LawfulIn (Commands k x) = LawfulCommand m x
  LawfulIn e = Unit {0}

  no_cause : (b : Bool) (why : Refusal) (rest : List (Option Refusal)) → first_some (where_true (not b) why ∷ rest) ≡ None → b ≡ true
  no_cause true why rest e = refl
  no_cause false why rest e = absurd (one e)
    where
      one : Some why ≡ None → ⊥
      one z = cc

  past_first : (x : Option Refusal) (rest : List (Option Refusal)) → first_some (x ∷ rest) ≡ None → first_some rest ≡ None
  past_first None rest e = e
  past_first (Some why) rest e = absurd (one e)
    where
      one : Some why ≡ None → ⊥
      one z = cc

  spelled_unless : (c : Client m) (x : CommandOf m) → LawfulCommand m x → refusal m c x ≡ None → IsSpelled x
  unfolding refusal tests
  spelled_unless c (cmd.Put o op) lawful fine = (lawful.1 (no_cause (m.allows o op) (cause.WrongKind o) _ (past_first (no_tx m c) _ (past_first (busy m c.work) _ fine))) (put_short m c o op fine)).read
  spelled_unless c x lawful fine = tt

  -- how a delivery ends the append of the client that it comes to
  same_node : (n : NodeId) → n.role ≡ role.Client → node_eq n (client_id n.num) ≡ true
  unfolding node_eq
  same_node n c = both_and (role_number n.role == 3) (n.num == n.num) (ap (λ (r : Role). role_number r == 3) c) (number_same n.num n.num refl)

  pub ended_here : (w : World m) (i : ℕ) (p : Packet) → slice_get w.packets i ≡ Some p → p.to.role ≡ role.Client → runs m w p.to ≡ true
      → ended_in m w (Deliver i) p.to.num ≡ work_ends m (client m w p.to.num) (client m w p.to.num).work p.from p.rid (reply p.msg)
  ended_here w i p is c on =
      ap (λ (o : Option Packet). packet_ends m w p.to.num o) is
      ∙ ap (λ (b : Bool). handed_ends m b (client m w p.to.num) p) (both_and (node_eq p.to (client_id p.to.num)) (runs m w p.to) (same_node p.to c) on)

module _ (m : Meaning) (objects : List Oid) (es : Entries) (rising : IsRising es) (listed : AreListed es) where
  abbrev Right : Client m → Type 0
  Right c = IsRight m objects es rising listed c

  -- What a command makes of a client.

  pub record IsBeginning (c : Client m) (x : Moved m) : Type 0 where
    pub tx : x.now.tx ≡ Some (open_tx (c.begun + 1))
    pub begun : x.now.begun ≡ c.begun + 1
    pub notes : x.notes ≡ note m (c.begun + 1) told.Begin ∷ []

  pub record IsPutting (c : Client m) (x : Moved m) : Type 0 where
    pub of : Tx
    pub from : c.tx ≡ Some of
    pub oid : Oid
    pub op : m.op
    pub spelled : m.read oid (m.spell op) ≡ Some op
    pub tx : x.now.tx ≡ Some (tx_put of (write_of m oid op))
    pub begun : x.now.begun ≡ c.begun
    pub notes : x.notes ≡ note m of.number (told.Put oid op) ∷ []

  -- a transaction that wrote nothing is ended
  pub record IsEnding (c : Client m) (x : Moved m) : Type 0 where
    pub of : Tx
    pub from : c.tx ≡ Some of
    pub none : of.writes ≡ []
    pub tx : x.now.tx ≡ None
    pub begun : x.now.begun ≡ c.begun
    pub notes : x.notes ≡ note m of.number told.End ∷ note m of.number (told.Committed (snapshot_or m of.snapshot)) ∷ []

  abbrev pub IsTrueEffect : Client m → Moved m → Type 0
  IsTrueEffect c x = TrueNotes m objects es rising listed x.notes × (IsBooked m objects es rising listed c.tx c.begun x ⊎ (IsBeginning c x ⊎ IsPutting c x))

  abbrev pub IsEffect : Client m → Moved m → Type 0
  IsEffect c x = IsTrueEffect c x ⊎ IsEnding c x

  abbrev True : WhatOf m → Type 0
  True w = TrueWhat m objects es rising listed w

  -- a reply is true, or commits
  abbrev pub SoTold : WhatOf m → Type 0
  SoTold w = True w ⊎ ((p : ℕ) × (w ≡ told.Committed p))

  abbrev pub SoNotes : List (NoteOf m) → Type 0
  SoNotes ns = (n : NoteOf m) → Has ns n → SoTold n.what

  so_ending : (n : NoteOf m) (of : Tx) → Has (note m of.number told.End ∷ note m of.number (told.Committed (snapshot_or m of.snapshot)) ∷ []) n → SoTold n.what
  so_ending n of (inl e) = subst (λ (y : NoteOf m). SoTold y.what) (sym e) (inl tt)
  so_ending n of (inr (inl e)) = subst (λ (y : NoteOf m). SoTold y.what) (sym e) (inr (snapshot_or m of.snapshot, refl))
  so_ending n of (inr (inr i)) = absurd i

  pub so_notes : (c : Client m) (x : Moved m) → IsEffect c x → SoNotes x.notes
  so_notes c x (inl e) n i = inl (e.0 n i)
  so_notes c x (inr e) n i = so_ending n e.of (subst (λ (ns : List (NoteOf m)). Has ns n) e.notes i)

  abbrev pub IsRightTurn : Client m → Moved m → Type 0
  IsRightTurn c r = Right r.now × IsEffect c r

  of_move : (c : Client m) (r : Moved m) → IsRightMove m objects es rising listed c.tx c.begun r → IsRightTurn c r
  of_move c r h = (h.0, inl (h.1, inl h.2))

  held : (c : Client m) → Right c → InStep m objects es rising listed c.tx c.begun c
  held c h = record { right = h; tx = inl refl; begun = refl }

  plainly : (c d : Client m) (n : ℕ) (what : WhatOf m) → Right d → (d.tx ≡ c.tx) ⊎ (d.tx ≡ None) → d.begun ≡ c.begun → True what → IsPlain m what → IsRightTurn c (moved m d (note m n what ∷ []))
  plainly c d n what h tx begun t p =
      (h, inl (one_note m objects es rising listed n what t, inl (inl (record { tx = tx; begun = begun; plain = one_plain m objects es rising listed c.tx c.begun n what p }))))

  no_items : {X : Type 0} → (xs : List X) → (length xs == 0) ≡ true → xs ≡ []
  no_items [] e = refl
  no_items (x ∷ xs) e = let n : suc (length xs) ≡ 0 = same_number (suc (length xs)) 0 e in absurd (omega (arith, n))

  blind : (t : Tx) (k : ℕ) → (length t.reads == 0) ≡ true → IsBlind m objects es rising listed (commit_record t k)
  unfolding commit_record
  blind t k e = (refl, no_items t.reads e)

  purpose : (t : Tx) (k : ℕ) (y : Purpose m) → IsFor m t y → TruePurpose m objects es rising listed (commit_record t k) y
  purpose t k _ (ForWrites e) = blind t k e
  purpose t k _ (ForJudged e) = tt

  -- an ask's answer in the view that stands at the transaction's snapshot
  asked_right : (c : Client m) (o : Oid) (q : m.ask) (t : Tx) (at : ℕ) (v : View m) (s : m.state) → c.tx ≡ Some t → t.snapshot ≡ Some at → c.view ≡ Some v → state_of m v o ≡ Some s → Right c → StandsIn m c.tx c.view
      → IsRightTurn c (moved m (record c { tx = Some (tx_read t (record { oid = o; part = m.look q; version = view_version m v o (m.look q) }) at) }) (note m t.number (told.Asked o q at (m.answers s q)) ∷ []))
  asked_right c o q t at v s has snap sees is h r =
      let with = r t at v o has snap sees in
      let k : IsTrueAt m objects es v at o = record { so = (h.view v sees).so; stands = with.stands; based = with.based } in (
        record { view = h.view; dir = h.dir; work = h.work },
        inl (
          one_note m objects es rising listed t.number (told.Asked o q at (m.answers s q)) (answer_there m objects es rising listed v at o q s k is),
          inl (inr (inl (record {
            of = t;
            from = has;
            oid = o;
            ask = q;
            snapshot = at;
            answer = m.answers s q;
            first = inr snap;
            tx = ap (λ (n : ℕ). Some (tx_read t (record { oid = o; part = m.look q; version = n }) at)) (version_there m objects es rising listed v at o s (m.look q) k is);
            begun = refl;
            notes = refl;
          }))),
        ),
      )

  -- a task begins that appends nothing
  begins_right : (c d : Client m) (w : Work m) (t : Task m) → InStep m objects es rising listed c.tx c.begun d → TrueTask m objects es rising listed t → IsRightTurn c (goes_on m d w t [])
  begins_right c d w t h k = of_move c (goes_on m d w t []) (goes_right m objects es rising listed c.tx c.begun d w t [] h k)

  taken_right : (c : Client m) (x : CommandOf m) (y : Moved m) → Right c → StandsIn m c.tx c.view → IsSpelled m x → Taken m c x y → IsRightTurn c y
  taken_right c _ _ h r spelled (SaidAtOnce _ _ _ (HostsAlready o e)) = plainly c c 0 (told.Hosted o) h (inl refl) refl tt tt
  taken_right c _ _ h r spelled (SaidAtOnce _ _ _ (Hosts o e)) = plainly c _ 0 (told.Hosted o) (record { view = λ v is. absurd (none v is); dir = h.dir; work = h.work }) (inl refl) refl tt tt
    where
      none : (v : View m) → None ≡ Some v → ⊥
      none v e = cc
  taken_right c _ _ h r spelled (SaidAtOnce _ _ _ Begins) =
      (record { view = h.view; dir = h.dir; work = h.work }, inl (one_note m objects es rising listed (c.begun + 1) told.Begin tt, inr (inl (record { tx = refl; begun = refl; notes = refl }))))
  taken_right c _ _ h r spelled (SaidAtOnce _ _ _ (Puts o op t is)) = (
    record { view = h.view; dir = h.dir; work = h.work },
    inl (
      one_note m objects es rising listed t.number (told.Put o op) tt,
      inr (inr (record { of = t; from = is; oid = o; op = op; spelled = spelled; tx = refl; begun = refl; notes = refl })),
    ),
  )
  taken_right c _ _ h r spelled (SaidAtOnce _ _ _ (Asks o q t at v s has snap sees is)) = asked_right c o q t at v s has snap sees is h r
  taken_right c _ _ h r spelled (SaidAtOnce _ _ _ (ReadsOnly t is e)) = (record { view = h.view; dir = h.dir; work = h.work }, inr (record { of = t; from = is; none = no_items t.writes e; tx = refl; begun = refl; notes = refl }))
  taken_right c _ _ h r spelled (SaidAtOnce _ _ _ Drops) = plainly c (closed m c) (tx_of m c) told.Dropped (record { view = h.view; dir = h.dir; work = h.work }) (inr refl) refl tt tt
  taken_right c _ _ h r spelled (SaidAtOnce _ _ _ x) = of_move c (moved m c []) (still m objects es rising listed c.tx c.begun c (held c h))
  taken_right c _ _ h r spelled (SyncsFirst x k) = of_move c (syncs m c (new_work m x) c.hosted) (syncs_right m objects es rising listed c.tx c.begun c (new_work m x) c.hosted (held c h))
  taken_right c _ _ h r spelled (AppendsRecord t y is e for) =
      of_move c (appends m c (new_work m cmd.End) (commit_record t c.num) y (note m t.number told.End ∷ []))
      (appends_right m objects es rising listed c.tx c.begun c (new_work m cmd.End) (commit_record t c.num) y (note m t.number told.End ∷ []) (held c h) (commit_draft m objects es rising listed t c.num) (purpose t c.num y for)
      (one_note m objects es rising listed t.number told.End tt) (one_plain m objects es rising listed c.tx c.begun t.number told.End tt))
  taken_right c _ _ h r spelled (ReconfBegins x n y e) = begins_right c _ (new_work m (cmd.Reconf x)) (Reconfiguring y) (record { right = record { view = h.view; dir = h.dir; work = h.work }; tx = inl refl; begun = refl }) tt
  taken_right c _ _ h r spelled (CopyBegins u i s) = begins_right c _ (new_work m (cmd.Copy u i s)) _ (record { right = record { view = h.view; dir = h.dir; work = h.work }; tx = inl refl; begun = refl }) tt

  called_right : (c : Client m) → Right c → Right (called m c)
  called_right c h = record { view = h.view; dir = h.dir; work = h.work }

  -- a turn of a client, as what it makes of it
  abbrev pub as_moved : ClientTurn m → Moved m
  as_moved t = record { now = t.now; besides = []; notes = t.notes }

  called_effect : (c : Client m) (r : Moved m) (sends : List Out) → IsEffect c r → IsEffect c (as_moved (record { now = called m r.now; sends = sends; notes = r.notes }))
  called_effect c r sends (inl (so, inl (inl e))) = inl (so, inl (inl (record { tx = e.tx; begun = e.begun; plain = e.plain })))
  called_effect c r sends (inl (so, inl (inr (inl e)))) =
      inl (so, inl (inr (inl (record { of = e.of; from = e.from; oid = e.oid; ask = e.ask; snapshot = e.snapshot; answer = e.answer; first = e.first; tx = e.tx; begun = e.begun; notes = e.notes }))))
  called_effect c r sends (inl (so, inl (inr (inr e)))) = inl (so, inl (inr (inr (record { tx = e.tx; begun = e.begun; oid = e.oid; mark = e.mark; notes = e.notes }))))
  called_effect c r sends (inl (so, inr (inl e))) = inl (so, inr (inl (record { tx = e.tx; begun = e.begun; notes = e.notes })))
  called_effect c r sends (inl (so, inr (inr e))) = inl (so, inr (inr (record { of = e.of; from = e.from; oid = e.oid; op = e.op; spelled = e.spelled; tx = e.tx; begun = e.begun; notes = e.notes })))
  called_effect c r sends (inr e) = inr (record { of = e.of; from = e.from; none = e.none; tx = e.tx; begun = e.begun; notes = e.notes })

  abbrev pub IsClientTurn : Client m → ClientTurn m → Type 0
  IsClientTurn c t = Right t.now × IsEffect c (as_moved t)

  given_right : (c : Client m) (r : Moved m) → IsRightTurn c r → IsClientTurn c (given m c r)
  given_right c r k = (called_right r.now k.0, called_effect c r (given m c r).sends k.1)

  pub command_right : (c : Client m) (x : CommandOf m) → Right c → (c.work ≡ None → StandsIn m c.tx c.view) → LawfulCommand m x → IsClientTurn c (client_command m c x)
  unfolding client_command
  command_right c x h r lawful =
      given_right c (refused_or m c x (refusal m c x))
      (commanded m (IsRightTurn c) c x (λ why e. plainly c c (number_on m c why) (told.Refused why) h (inl refl) refl tt tt) (λ fine y k. taken_right c x y h (r (not_busy m c x fine)) (spelled_unless m c x lawful fine) k))

  pub tick_right : (c : Client m) → Right c → IsClientTurn c (client_tick m c)
  unfolding client_tick
  tick_right c h = by c.work
    where
      by : (w : Option (Work m)) → IsClientTurn c (tick_by m c w)
      by None = (called_right c h, inl (λ n i. absurd i, inl (inl (record { tx = inl refl; begun = refl; plain = λ n i. absurd i }))))
      by (Some w) = (record { view = h.view; dir = h.dir; work = h.work }, inl (λ n i. absurd i, inl (inl (record { tx = inl refl; begun = refl; plain = λ n i. absurd i }))))

  -- Worlds.

  pub record IsRightWorld (w : World m) : Type 0 where
    pub clients : (k : ℕ) → Right (client m w k)
    pub replies : (t : Told m) → Has w.told t → SoTold t.mark.what
    pub objects_are : w.cluster.objects ≡ objects

  turned_right : (w : World m) (n : ℕ) (c : Client m) (t : ClientTurn m) → IsRightWorld w → IsClientTurn c t → IsRightWorld (client_turned m w n t)
  unfolding client_turned
  turned_right w n c t h turn = record {
    clients = λ k. by k (set_at w.clients n t.now k (new_client m w.cluster k));
    replies = λ x i. said x (has_either w.told (map (mark_of m w n) t.notes) x i);
    objects_are = h.objects_are;
  }
    where
      by : (k : ℕ) → (slice_index_or (slice_set w.clients n t.now) k (new_client m w.cluster k) ≡ t.now)
          ⊎ (slice_index_or (slice_set w.clients n t.now) k (new_client m w.cluster k) ≡ slice_index_or w.clients k (new_client m w.cluster k)) → Right (slice_index_or (slice_set w.clients n t.now) k (new_client m w.cluster k))
      by k (inl e) = subst Right (sym e) turn.0
      by k (inr e) = subst Right (sym e) (h.clients k)

      said : (x : Told m) → Has w.told x ⊎ Has (map (mark_of m w n) t.notes) x → SoTold x.mark.what
      said x (inl i) = h.replies x i
      said x (inr i) = let k = has_image (mark_of m w n) t.notes x i in subst (λ (y : Told m). SoTold y.mark.what) (sym k.2) (so_notes c (as_moved t) turn.1 k.0 k.1)

  pub deliver_right : (c : Client m) (from : NodeId) (rid : ℕ) (p : Packet) → Right c → LandsBy m es (append_by m c.work) (work_ends m c c.work from rid (reply p.msg)) → EachDelivery m objects es (Ready m objects es) c c.work from rid (reply p.msg) → IsClientTurn c (client_deliver m c from rid p.msg)
  unfolding client_deliver
  deliver_right c from rid p h l r =
      given_right c (feed m c c.work from rid (reply p.msg)) (of_move c (feed m c c.work from rid (reply p.msg)) (feed_right m objects es rising listed c.tx c.begun c from rid (reply p.msg) (held c h) l r))

  -- while no command waits, a transaction's view stands at its snapshot
  abbrev pub AllStand : World m → Type 0
  AllStand w = (k : ℕ) → (client m w k).work ≡ None → StandsIn m (client m w k).tx (client m w k).view

  -- an append that ends in a step does so by the log
  abbrev pub AllLand : World m → EventOf m → Type 0
  AllLand w e = (k : ℕ) → LandsBy m es (append_by m (client m w k).work) (ended_in m w e k)

  abbrev pub LandsHere : World m → Packet → Type 0
  LandsHere w p =
      LandsBy m es (append_by m (client m w p.to.num).work) (work_ends m (client m w p.to.num) (client m w p.to.num).work p.from p.rid (reply p.msg))

  pub lands_here : (w : World m) (i : ℕ) (p : Packet) → AllLand w (Deliver i) → slice_get w.packets i ≡ Some p → p.to.role ≡ role.Client → runs m w p.to ≡ true → LandsHere w p
  lands_here w i p l is c on = λ a e has ends. l p.to.num a e has (ended_here m w i p is c on ∙ ends)

  moves_right : (w : World m) (p : Packet) (r : Role) → IsRightWorld w → (r ≡ role.Client → LandsHere w p) → (r ≡ role.Client → EachDelivery m objects es (Ready m objects es) (client m w p.to.num) (client m w p.to.num).work p.from p.rid (reply p.msg)) → IsRightWorld (moves m w p r)
  unfolding unit_moves layout_moves seqr_moves
  moves_right w p role.Unit h l e = record { clients = h.clients; replies = h.replies; objects_are = h.objects_are }
  moves_right w p role.Layout h l e = record { clients = h.clients; replies = h.replies; objects_are = h.objects_are }
  moves_right w p role.Seqr h l e = record { clients = h.clients; replies = h.replies; objects_are = h.objects_are }
  moves_right w p role.Client h l e =
      turned_right w p.to.num (client m w p.to.num) (client_deliver m (client m w p.to.num) p.from p.rid p.msg) h (deliver_right (client m w p.to.num) p.from p.rid p (h.clients p.to.num) (l refl) (e refl))

  pub happens_right : (w : World m) (e : EventOf m) → IsRightWorld w → LawfulIn m e → AllStand w → AllLand w e → EachEvent m objects es (Ready m objects es) w e → IsRightWorld (happens m w e)
  unfolding happens
  happens_right w (Commands k x) h lawful stand land r = counts (by (runs m w (client_id k)))
    where
      counts : {v : World m} → IsRightWorld v → IsRightWorld (counted m v)
      counts {v} i = record { clients = i.clients; replies = i.replies; objects_are = i.objects_are }

      noted : (b : Bool) → IsRightWorld (noted_if m b w k (client m w k))
      noted true = h
      noted false = record { clients = h.clients; replies = h.replies; objects_are = h.objects_are }

      by : (b : Bool) → IsRightWorld (commands m b w k x)
      by true = turned_right (noted_if m (is_some (client m w k).work) w k (client m w k)) k (client m w k) (client_command m (client m w k) x) (noted (is_some (client m w k).work)) (command_right (client m w k) x (h.clients k) (stand k) lawful)
      by false = h
  happens_right w (Deliver i) h lawful stand land r = let x = by (slice_get w.packets i) refl in record { clients = x.clients; replies = x.replies; objects_are = x.objects_are }
    where
      comes_right : (p : Packet) → slice_get w.packets i ≡ Some p → (b : Bool) → runs m w p.to ≡ b → IsRightWorld (comes m b (handed m w i) p)
      comes_right p is true on = moves_right (handed m w i) p p.to.role (record { clients = h.clients; replies = h.replies; objects_are = h.objects_are }) (λ c. lands_here w i p land is c on) (λ c. r p is c on)
      comes_right p is false on = record { clients = h.clients; replies = h.replies; objects_are = h.objects_are }

      by : (p : Option Packet) → slice_get w.packets i ≡ p → IsRightWorld (delivers m w i p)
      by None is = h
      by (Some p) is = comes_right p is (runs m (handed m w i) p.to) refl
  happens_right w (Lose i) h lawful stand land r = record { clients = h.clients; replies = h.replies; objects_are = h.objects_are }
  happens_right w (Tick n) h lawful stand land r = let x = by (runs m w n) in record { clients = x.clients; replies = x.replies; objects_are = x.objects_are }
    where
      ticks_right : (x : Role) → IsRightWorld (ticks m w n.num x)
      ticks_right role.Unit = h
      ticks_right role.Layout = h
      ticks_right role.Seqr = record { clients = h.clients; replies = h.replies; objects_are = h.objects_are }
      ticks_right role.Client = turned_right w n.num (client m w n.num) (client_tick m (client m w n.num)) h (tick_right (client m w n.num) (h.clients n.num))

      by : (b : Bool) → IsRightWorld (ticks_if m b w n)
      by true = ticks_right n.role
      by false = h
  happens_right w (Stop n) h lawful stand land r = let x = by (runs m w n) in record { clients = x.clients; replies = x.replies; objects_are = x.objects_are }
    where
      by : (b : Bool) → IsRightWorld (stops_if m b w n)
      by true = record { clients = h.clients; replies = h.replies; objects_are = h.objects_are }
      by false = h
