-- The laws: what the log's checkpoints, marks and decisions come from.
use Rattle.std.proofs.Common.{◌≡◌, ℕ, ◌≤◌, List, [], ◌∷◌, Bool, true, refl, sym, ap, ◌∙◌, subst, inl, inr, arith, Some, Contains}
use Rattle.tg_base.specs.Clusters.{Header}
use Rattle.tg_base.specs.declared.ids.Oid.{Oid}
use Rattle.tg_base.specs.declared.marks.Part.{Part}
use Rattle.tg_base.specs.declared.marks.ReadMark.{ReadMark}
use Rattle.tg_entry.specs.Format as format
use Rattle.tg_entry.specs.Format.{tag_of}
use Rattle.tg_entry.specs.Needs.{writes_of, writes_in}
use Rattle.tg_entry.specs.Records as records
use Rattle.tg_entry.specs.Records.{linked}
use Rattle.tg_entry.specs.declared.entry.Body.{Body}
use Rattle.tg_entry.specs.declared.entry.Body.TheVariants.{Commit, Decision, Checkpoint}
use Rattle.tg_entry.specs.declared.entry.Entry.{Entry}
use Rattle.tg_entry.specs.declared.entry.WriteOp.{WriteOp}
use Rattle.tg_append.proofs.Pages.{linked_fits}
use Rattle.tg_kind.specs.Meaning.{Meaning}
use Rattle.tg_model.specs.declared.command.Command.TheVariants as cmd
use Rattle.tg_model.specs.Kinds.{CommandOf}
use Rattle.tg_protocol.specs.Words.{directory}
use Rattle.tg_protocol.specs.Checkpoints.{may_forget}
use Rattle.tg_protocol.specs.Clients.{Purpose, Writes, Judged, Decides, Rescues, Saves, Marks, upto, write_of, all_entries}
use Rattle.tg_protocol.specs.Worlds.{World, client}
use Rattle.tg_protocol.specs.Runs.{Moves, Reaches}
use Rattle.tg_protocol.specs.Alike.{HasEntry}
use Rattle.tg_law_layouts.specs.Moves.After.{after}
use Rattle.tg_law_layouts.proofs.Moves.Lists.{contained}
use Rattle.tg_law_layouts.proofs.Moves.Members.{Has, has_contained}
use Rattle.tg_law_cells.proofs.Tokens.Linked.{some_entry, read_back}
use Rattle.tg_law_cells.specs.Entries.Archive.{TrimsWereSafe}
use Rattle.tg_law_walks.proofs.Drafts.Drafting.{Fitting, Whole, Saving}
use Rattle.tg_law_walks.proofs.Drafts.Sound.{DraftOk}
use Rattle.tg_law_walks.proofs.Drafts.Written.{draft_in}
use Rattle.tg_law_headline.specs.AllKinds.Directories.{DirectoryLaws}
use Rattle.tg_law_walks.specs.Lists.Spared.{TrimsWereSpare}
use Rattle.tg_law_walks.proofs.Checkpoints.Checkpoints.{entries_own}
use Rattle.tg_law_syncs.proofs.Follow.Asks.{put_past}
use Rattle.tg_law_syncs.proofs.Follow.Saves.{saved_below}
use Rattle.tg_law_walks.proofs.Once.Nowhere.{reached}
use Rattle.tg_law_walks.proofs.Once.Reached.{header, give, short}
use Rattle.tg_law_headline.specs.Origins.Origins.{WalkedFor, StandsSince, DecidesAt, CheckpointFrom, MarkFrom, DecisionFrom, ByRuns, BySpareRuns, CheckpointsFollowWalks, MarksFollowWalks, DecisionsFollowWalks}
use Rattle.tg_law_headline.proofs.Origins.Drafts.{CommandFits, EndBy, SavesBy, MarksBy, DecidesBy, IsRecord, DraftFits, TaskFits, WorkFits}
use Rattle.tg_law_headline.proofs.Origins.Along.{fits_at}
use Rattle.tg_law_headline.proofs.Origins.Puts.{PutFor, puts_for}
use Rattle.tg_law_headline.proofs.Origins.Homes.{kept, sent, follows}
use Rattle.tg_law_headline.specs.Leaves.Passed.{Ended}
use Rattle.tg_law_headline.proofs.Leaves.Passing.{ended_on}

two_tags : {X : Type 0} (a b n : ℕ) → n ≡ a → n ≡ b → (a ≡ b → ⊥) → X
two_tags a b n e f isnt = absurd (isnt (sym e ∙ f))

one_op : {X : Type 0} (a b : X) → Some a ≡ Some b → a ≡ b
one_op a b e = cc

module _ (m : Meaning) (h : Header) (zs : Moves m) (reach : Reaches m h zs (after m h zs)) (safe : TrimsWereSafe m h zs) (pos : ℕ) (e : Entry) (i : HasEntry m (after m h zs) pos e) where
  abbrev k : ℕ
  k = e.head.client

  put : PutFor m h zs reach zs e.head.client (sent m h zs reach safe pos e i).packet (sent m h zs reach safe pos e i).epoch (sent m h zs reach safe pos e i).page e
  put = puts_for m h zs reach e.head.client (sent m h zs reach safe pos e i)

  -- how far its client had played then
  abbrev top : ℕ
  top = upto m (client m (after m h put.before) e.head.client)

  -- what it comes from
  fits : DraftFits m (Ended m h put.before e.head.client) (client m (after m h put.before) e.head.client).stand.epoch top put.append.draft put.holds.purpose
  fits = subst (TaskFits m (Ended m h put.before e.head.client) (client m (after m h put.before) e.head.client).stand.epoch top) put.holds.holds
      (subst (WorkFits m (Ended m h put.before e.head.client) (client m (after m h put.before) e.head.client).stand.epoch top (client m (after m h put.before) e.head.client).hosted) put.holds.has
      (fits_at m h zs reach put.before put.mid put.split e.head.client).1).0

  -- it stands at or past what its client had played
  view_past : TrimsWereSpare m h zs → top ≤ pos
  view_past spare = put_past m h zs reach spare put.before put.mid put.split e.head.client put.append put.holds (sent m h zs reach safe pos e i) put.sent put.kind (kept m h zs reach safe pos e i)

  -- where its draft has a spelling, it is the draft with links
  same_body : format.entry.fits put.append.draft ≡ true → e.body ≡ put.append.draft.body
  same_body spelled = ap (λ (x : Entry). x.body) (some_entry e (linked put.append.draft put.links)
      (sym (sent m h zs reach safe pos e i).reads ∙ read_back (linked put.append.draft put.links) (sent m h zs reach safe pos e i).page (linked_fits put.append.draft put.links put.names spelled) put.is))

  draft : DraftOk m e.head.client put.append.draft
  draft = draft_in m h zs (header m h zs reach) (give m h zs reach) (short m h zs reach) put.before put.mid put.split e.head.client put.append put.holds

  -- as it has where it is no checkpoint
  body_unless : (tag_of e.body ≡ 3 → ⊥) → e.body ≡ put.append.draft.body
  body_unless other = by draft.fits
    where
      by : Fitting put.append.draft → e.body ≡ put.append.draft.body
      by (Whole spelled) = same_body spelled
      by (Saving saves twin) = absurd (other (put.kind.0 ∙ saves))

  -- the end of walks is of the run
  of_run : (b : EndBy m (Ended m h put.before e.head.client) (client m (after m h put.before) e.head.client).stand.epoch) → Ended m h zs e.head.client b.end
  of_run b = subst (λ (ms : Moves m). Ended m h ms e.head.client b.end) (sym put.split) (ended_on m h put.before put.mid e.head.client b.end b.came)

  abbrev walk : (b : EndBy m (Ended m h put.before e.head.client) (client m (after m h put.before) e.head.client).stand.epoch) → (x : CommandOf m) → b.end.work.command ≡ x → WalkedFor m h zs e.head.client x
  walk b x is = record { end = b.end; came = of_run b; command = is }

  follow : (b : EndBy m (Ended m h put.before e.head.client) (client m (after m h put.before) e.head.client).stand.epoch) → StandsSince m (after m h zs) b.end.client.stand.epoch pos
  follow b = follows m h zs reach safe pos e i b.end.client.stand.epoch b.some (let a = b.epoch in let s = put.stands in omega (arith, a, s))

  commit_not : (rs : List ReadMark) (ws : List WriteOp) → put.append.draft.body ≡ Commit rs ws → tag_of e.body ≡ 1
  commit_not rs ws is = put.kind.0 ∙ ap tag_of is

  decision_tag : (d : DecidesBy m (Ended m h put.before e.head.client) (client m (after m h put.before) e.head.client).stand.epoch put.append.draft) → tag_of e.body ≡ 2
  decision_tag d = put.kind.0 ∙ ap tag_of d.body

  -- Checkpoints.

  module _ (o : Oid) (upto version whole : ℕ) (keys : List (Part × ℕ)) (state : List ℕ) (is : e.body ≡ Checkpoint o upto version whole keys state) (spelled : format.entry.fits put.append.draft ≡ true) (low : upto ≤ pos) where
    same_save : (a b : Oid) (s t u v p q : ℕ) (ks ls : List (Part × ℕ)) (x y : List ℕ) → Checkpoint a s u p ks x ≡ Checkpoint b t v q ls y → (a ≡ b) × (s ≡ t)
    same_save a b s t u v p q ks ls x y z = (cc, cc)

    tag : tag_of e.body ≡ 3
    tag = ap tag_of is

    saved : (a : Oid) (n : ℕ) → SavesBy m (Ended m h put.before e.head.client) (client m (after m h put.before) e.head.client).stand.epoch put.append.draft a n → CheckpointFrom m h zs (after m h zs) pos e o upto
    saved a n f =
        let same = same_save a o n upto f.version version f.whole whole f.keys keys f.state state (sym f.body ∙ (sym (same_body spelled) ∙ is)) in
        let command = f.command ∙ ap (λ (x : Oid). cmd.Checkpoint x) same.0 in
        let fit = subst (CommandFits m f.by.end.client.hosted f.by.end.work.oids) command f.by.fits in
        record {
          walk = walk f.by (cmd.Checkpoint o) command;
          tail = f.tail ∙ same.1;
          below = low;
          walked = contained f.by.end.work.oids o fit.1;
          hosted = contained f.by.end.client.hosted o fit.0;
          follows = follow f.by;
        }

    checkpoint_from : CheckpointFrom m h zs (after m h zs) pos e o upto
    checkpoint_from = by put.holds.purpose fits
      where
        by : (y : Purpose m) → DraftFits m (Ended m h put.before e.head.client) (client m (after m h put.before) e.head.client).stand.epoch top put.append.draft y → CheckpointFrom m h zs (after m h zs) pos e o upto
        by Writes f = two_tags 3 1 (tag_of e.body) tag (commit_not f.reads f.writes f.body) (λ z. omega (arith, z))
        by Judged f = two_tags 3 1 (tag_of e.body) tag (commit_not f.reads f.writes f.body) (λ z. omega (arith, z))
        by (Decides what) f = two_tags 3 2 (tag_of e.body) tag (decision_tag f) (λ z. omega (arith, z))
        by (Rescues what) f = two_tags 3 2 (tag_of e.body) tag (decision_tag f) (λ z. omega (arith, z))
        by (Saves a n) f = saved a n f
        by (Marks n a mark) f = two_tags 3 1 (tag_of e.body) tag (commit_not _ _ f.body) (λ z. omega (arith, z))

  -- Marks.

  module _ (is_object : Oid → Bool) (is_op : m.op → Bool) (laws : DirectoryLaws m is_object is_op) (objects : (o : Oid) → records.is_object o ≡ true → is_object o ≡ true) (x : WriteOp) (o : Oid) (mark : ℕ) (object : is_object o ≡ true)
      (has : Contains (writes_of e) x) (to : x.oid ≡ directory) (reads : m.read directory x.op ≡ Some (m.mark_op o mark)) (past : top ≤ pos) where
    writes : Has (writes_of e) x
    writes = has_contained (writes_of e) x has

    no_save : tag_of e.body ≡ 3 → ⊥
    no_save t = by e.body t writes
      where
        by : (b : Body) → tag_of b ≡ 3 → Has (writes_in b) x → ⊥
        by (Commit rs ws) t j = two_tags 1 3 1 refl t (λ z. omega (arith, z))
        by (Decision p so) t j = j
        by (Checkpoint a u v t' ks s) t j = j

    written : Has (writes_in put.append.draft.body) x
    written = subst (λ (b : Body). Has (writes_in b) x) (body_unless no_save) writes

    -- no user puts a mark
    unput : IsRecord m (Ended m h put.before e.head.client) put.append.draft → MarkFrom m h zs (after m h zs) pos e o mark
    unput f =
        let p = f.puts x (subst (λ (b : Body). Has (writes_in b) x) f.body written) in
        let same = one_op p.0 (m.mark_op o mark) (sym p.1 ∙ (ap (λ (a : Oid). m.read a x.op) to ∙ reads)) in
        absurd (laws.unput x.oid o p.0 mark p.2 same)

    decides_none : (d : DecidesBy m (Ended m h put.before e.head.client) (client m (after m h put.before) e.head.client).stand.epoch put.append.draft) → MarkFrom m h zs (after m h zs) pos e o mark
    decides_none d = absurd (subst (λ (b : Body). Has (writes_in b) x) d.body written)

    marked : (a : Oid) (n : ℕ) → MarksBy m (Ended m h put.before e.head.client) (client m (after m h put.before) e.head.client).stand.epoch top put.append.draft a n → MarkFrom m h zs (after m h zs) pos e o mark
    marked a n f = by (subst (λ (b : Body). Has (writes_in b) x) f.body written)
      where
        fit : CommandFits m f.by.end.client.hosted f.by.end.work.oids (cmd.Forget a n)
        fit = subst (CommandFits m f.by.end.client.hosted f.by.end.work.oids) f.command f.by.fits

        by : Has (write_of m directory (m.mark_op a n) ∷ []) x → MarkFrom m h zs (after m h zs) pos e o mark
        by (inr z) = absurd z
        by (inl z) =
            let same = one_op (m.mark_op a n) (m.mark_op o mark) (sym fit.2.1.read ∙ (ap (λ (y : WriteOp). m.read directory y.op) (sym z) ∙ reads)) in
            let one = laws.apart a o n mark (objects a fit.2.0) object same in
            let command = f.command ∙ (λ j. cmd.Forget (one.0 j) (one.1 j)) in
            record {
              walk = walk f.by (cmd.Forget o mark) command;
              allowed = (λ j. may_forget m (all_entries m f.by.end.client f.by.end.work f.by.end.client.hosted) (sym one.0 j) (sym one.1 j)) ∙ f.allowed;
              below = (let seen = f.below in omega (arith, seen, past));
              walked = contained f.by.end.work.oids o (subst (Has f.by.end.work.oids) one.0 fit.1);
              hosted = contained f.by.end.client.hosted o (subst (Has f.by.end.client.hosted) one.0 fit.0);
              follows = follow f.by;
            }

    mark_from : MarkFrom m h zs (after m h zs) pos e o mark
    mark_from = by put.holds.purpose fits
      where
        by : (y : Purpose m) → DraftFits m (Ended m h put.before e.head.client) (client m (after m h put.before) e.head.client).stand.epoch top put.append.draft y → MarkFrom m h zs (after m h zs) pos e o mark
        by Writes f = unput f
        by Judged f = unput f
        by (Decides what) f = decides_none f
        by (Rescues what) f = decides_none f
        by (Saves a n) f = absurd (subst (λ (b : Body). Has (writes_in b) x) f.body written)
        by (Marks n a j) f = marked a j f

  -- Decisions.

  module _ (p : ℕ) (is_yes : Bool) (is : e.body ≡ Decision p is_yes) where
    tag_two : tag_of e.body ≡ 2
    tag_two = ap tag_of is

    same_at : (a b : ℕ) (s t : Bool) → Decision a s ≡ Decision b t → a ≡ b
    same_at a b s t z = cc

    decided : DecidesBy m (Ended m h put.before e.head.client) (client m (after m h put.before) e.head.client).stand.epoch put.append.draft → DecisionFrom m h zs (after m h zs) pos e p
    decided f =
        let same = same_at f.at p f.is_yes is_yes (sym f.body ∙ (sym (body_unless (λ t. two_tags 2 3 (tag_of e.body) tag_two t (λ z. omega (arith, z)))) ∙ is)) in
        record {
          command = f.by.end.work.command;
          walk = walk f.by f.by.end.work.command refl;
          decides = subst (λ (n : ℕ). DecidesAt m f.by.end.work.command f.by.end.work.at n) same f.decides;
          follows = follow f.by;
        }

    decision_from : DecisionFrom m h zs (after m h zs) pos e p
    decision_from = by put.holds.purpose fits
      where
        by : (y : Purpose m) → DraftFits m (Ended m h put.before e.head.client) (client m (after m h put.before) e.head.client).stand.epoch top put.append.draft y → DecisionFrom m h zs (after m h zs) pos e p
        by Writes f = two_tags 2 1 (tag_of e.body) tag_two (commit_not f.reads f.writes f.body) (λ z. omega (arith, z))
        by Judged f = two_tags 2 1 (tag_of e.body) tag_two (commit_not f.reads f.writes f.body) (λ z. omega (arith, z))
        by (Decides what) f = decided f
        by (Rescues what) f = decided f
        by (Saves a n) f = two_tags 2 3 (tag_of e.body) tag_two (put.kind.0 ∙ ap tag_of f.body) (λ z. omega (arith, z))
        by (Marks n a mark) f = two_tags 2 1 (tag_of e.body) tag_two (commit_not _ _ f.body) (λ z. omega (arith, z))

module _ (m : Meaning) where
  at_end : (P : Header → Moves m → World m → Type 0) → ((h : Header) (zs : Moves m) → Reaches m h zs (after m h zs) → TrimsWereSafe m h zs → P h zs (after m h zs)) → ByRuns m P
  at_end P f h ms w r safe = subst (P h ms) (sym r.goes.is) (f h ms (reached m h ms w r) safe)

  pub decisions_follow_walks : DecisionsFollowWalks m
  decisions_follow_walks = at_end _ (λ h zs reach safe pos e p so i is. decision_from m h zs reach safe pos e i p so is)

  at_spare_end : (P : Header → Moves m → World m → Type 0) → ((h : Header) (zs : Moves m) → Reaches m h zs (after m h zs) → TrimsWereSpare m h zs → P h zs (after m h zs)) → BySpareRuns m P
  at_spare_end P f h ms w r spare = subst (P h ms) (sym r.goes.is) (f h ms (reached m h ms w r) spare)

  pub marks_follow_walks : MarksFollowWalks m
  marks_follow_walks is_object is_op laws objects = at_spare_end _ (λ h zs reach spare pos e x o mark object i has to reads. mark_from m h zs reach spare.safe pos e i is_object is_op laws objects x o mark object has to reads (view_past m h zs reach spare.safe pos e i spare))

  pub checkpoints_follow_walks : CheckpointsFollowWalks m
  checkpoints_follow_walks parts h ms w r spare = subst (λ (u : World m). (pos : ℕ) (e : Entry) (o : Oid) (upto version whole : ℕ) (keys : List (Part × ℕ)) (state : List ℕ) → HasEntry m u pos e → e.body ≡ Checkpoint o upto version whole keys state → CheckpointFrom m h ms u pos e o upto) (sym r.goes.is)
      (here h ms (reached m h ms w r) spare)
    where
      here : (h : Header) (zs : Moves m) → Reaches m h zs (after m h zs) → TrimsWereSpare m h zs → (pos : ℕ) (e : Entry) (o : Oid) (upto version whole : ℕ) (keys : List (Part × ℕ)) (state : List ℕ) → HasEntry m (after m h zs) pos e → e.body ≡ Checkpoint o upto version whole keys state
          → CheckpointFrom m h zs (after m h zs) pos e o upto
      here h zs reach spare pos e o upto version whole keys state i is =
          checkpoint_from m h zs reach spare.safe pos e i o upto version whole keys state is ((draft m h zs reach spare.safe pos e i).spelled parts)
          (saved_below m h zs reach spare (entries_own m parts h zs (after m h zs) reach) pos e i upto (record { oid = o; version = version; whole = whole; keys = keys; state = state; is = is }))
