-- What each reply of a run tells keeps the words of its fields, where the size that a refusal tells has 64 bits.
use Rattle.std.proofs.Common.{◌≡◌, ℕ, ◌+◌, ◌<◌, ◌≤◌, ◌^◌, [], ◌∷◌, Bool, true, false, cond, refl, sym, ap, subst, inl, inr, arith}
use Rattle.std.specs.Prelude.{◌&&◌, ◌||◌, nat_lt}
use Rattle.std.proofs.lemmas.Bool.Decides.{nat_tests}
use Rattle.tg_base.specs.Clusters.{Header, IsHeader}
use Rattle.tg_base.specs.declared.ids.Oid.{Oid}
use Rattle.tg_base.specs.declared.marks.Part.{Part}
use Rattle.tg_codec.proofs.Laws.{both}
use Rattle.tg_dir.specs.declared.directory.DirectoryAsk.TheVariants as directory_asks
use Rattle.tg_map.specs.declared.map.MapAsk.TheVariants as map_asks
use Rattle.tg_set.specs.declared.set.SetAsk.TheVariants as set_asks
use Rattle.tg_tree.specs.declared.tree.TreeAsk.TheVariants as tree_asks
use Rattle.tg_kind.specs.Texts.{text_format}
use Rattle.tg_tree.specs.Paths.{path_format}
use Rattle.tg_model.specs.declared.refusal.Refusal.{Refusal}
use Rattle.tg_model.specs.declared.refusal.Refusal.TheVariants as cause
use Rattle.tg_model.specs.declared.trace.What.TheVariants as told
use Rattle.tg_model.specs.Kinds.{DoneOf, MarkOf, WhatOf}
use Rattle.tg_model.specs.Stores.{History, state_at, changes, changed, later_of}
use Rattle.tg_model.specs.Traces.{Tells}
use Rattle.tg_model.specs.Legal.{Legal}
use Rattle.tg_protocol.specs.Words.{directory}
use Rattle.tg_protocol.specs.Worlds.{World, Told, history, trace}
use Rattle.tg_protocol.specs.Runs.{Moves, Reaches}
use Rattle.tg_protocol.specs.Alike.{HasCommit}
use Rattle.tg_any.specs.declared.any.AnyAsk.{AnyAsk}
use Rattle.tg_any.specs.declared.any.AnyAsk.TheVariants as asks
use Rattle.tg_any.specs.declared.any.AnyAns.{AnyAns}
use Rattle.tg_any.specs.Anys as any
use Rattle.tg_any.specs.AnyLaws as laws
use Rattle.tg_any.specs.AllKinds.{all_kinds}
use Rattle.tg_any.specs.AnyWords.{ask_fits, answer_fits, op_fits}
use Rattle.tg_any.specs.Names.{is_named}
use Rattle.tg_client_state.proofs.Headers.{header_kept}
use Rattle.tg_trace.specs.Fields.{part_fits}
use Rattle.tg_trace.specs.Replies.{what_fits}
use Rattle.tg_trace.specs.Refusals.{refusal_fits}
use Rattle.tg_law_layouts.specs.Moves.After.{after}
use Rattle.tg_law_layouts.proofs.Moves.Lists.{contained}
use Rattle.tg_law_layouts.proofs.Moves.Members.{Has, has_contained}
use Rattle.tg_law_headline.specs.Runs.Runs.{RunHolds}
use Rattle.tg_law_headline.specs.Runs.Logs.{LogHolds}
use Rattle.tg_law_headline.proofs.Runs.Holding.{runs_hold, logs_hold}
use Rattle.tg_law_headline.proofs.Alike.Records.{has_mark}
use Rattle.tg_law_replies.proofs.History.Members as history_members
use Rattle.tg_law_syncs.proofs.Follow.Replies.{Fact, IsOther, IsOfTx, IsSaved, state}
use Rattle.tg_law_syncs.proofs.Follow.Says.{Other}
use Rattle.tg_law_programs.specs.Transcripts.Fits.{TellsBelow}
use Rattle.tg_law_programs.proofs.Transcripts.Given.{WhyOk}
use Rattle.tg_law_programs.proofs.Transcripts.Passed.{Named, OpOk, AskOk, Says}
use Rattle.tg_law_programs.proofs.Transcripts.Answered.{answers_fit, asked_object, floors_fit}
use Rattle.tg_law_programs.proofs.Transcripts.Kept.{states_kept}
use Rattle.tg_law_programs.proofs.Transcripts.Numbers.{cluster_is}
use Rattle.tg_law_programs.proofs.Transcripts.Histories.{stamp_below, limit_few, writes_are_ops}
use Rattle.tg_law_programs.proofs.Transcripts.Places.{places_near}
use Rattle.tg_law_programs.proofs.Transcripts.Told.{records_below}

near : (n : ℕ) → n < 2 ^ 64 → nat_lt n (2 ^ 64) ≡ true
near n e = grind (arith, nat_tests)

few : (n : ℕ) → n < 65536 → nat_lt n 65536 ≡ true
few n e = grind (arith, nat_tests)

or_left : (a b : Bool) → a ≡ true → (a || b) ≡ true
or_left true b e = refl
or_left false b e = absurd cc

or_right : (a b : Bool) → b ≡ true → (a || b) ≡ true
or_right true b e = refl
or_right false b e = e

-- refusals, of which one tells a size
why_fits : (why : Refusal) → WhyOk all_kinds Named OpOk AskOk why → ((b : ℕ) → why ≡ cause.TooLarge b → b < 2 ^ 64) → refusal_fits why ≡ true
why_fits (cause.Busy x) k n = refl
why_fits cause.NoTx k n = refl
why_fits cause.TxOpen k n = refl
why_fits (cause.NotHosted o) k n = k
why_fits (cause.NotRegistered o) k n = k
why_fits (cause.WrongKind o) k n = k
why_fits (cause.TooLarge b) k n = near b (n b refl)
why_fits (cause.Undecided p o) k n = both (nat_lt p (2 ^ 64)) (is_named o) (near p k.0) k.1
why_fits (cause.LogFull l) k n = near l k
why_fits (cause.Forgotten p b) k n = both (nat_lt p (2 ^ 64)) (nat_lt b (2 ^ 64)) (near p k.0) (near b k.1)
why_fits (cause.NoReplica r s) k n = both (nat_lt r (2 ^ 64)) (nat_lt s (2 ^ 64)) (near r k.0) (near s k.1)
why_fits (cause.Returned u) k n = few u k
why_fits (cause.Overtaken e) k n = near e k
why_fits (cause.OpenDecision p) k n = near p k
why_fits (cause.NoCheckpoint o) k n = k
why_fits (cause.TooMany x) k n = refl
why_fits (cause.NotClosed r) k n = near r k
why_fits (cause.NoStripe r s) k n = both (nat_lt r (2 ^ 64)) (nat_lt s (2 ^ 64)) (near r k.0) (near s k.1)
why_fits (cause.InChain u) k n = few u k
why_fits (cause.NotWhole u p) k n = both (nat_lt u 65536) (nat_lt p (2 ^ 64)) (few u k.0) (near p k.1)
why_fits (cause.Ahead t) k n = near t k

-- what an ask looks at
pub part_of : (q : AnyAsk) → ask_fits q ≡ true → part_fits (all_kinds.look q) ≡ true
unfolding any.looked
part_of (asks.Directory (directory_asks.Find name)) e = or_left (text_format.fits name) (path_format.fits name) e
part_of (asks.Directory directory_asks.Marks) e = refl
part_of (asks.Directory directory_asks.Floor) e = refl
part_of (asks.Counter q) e = refl
part_of (asks.Register q) e = refl
part_of (asks.Map (map_asks.Get key)) e = or_left (text_format.fits key) (path_format.fits key) e
part_of (asks.Map map_asks.Size) e = refl
part_of (asks.Map map_asks.Keys) e = refl
part_of (asks.List q) e = refl
part_of (asks.Tree (tree_asks.Data path)) e = or_right (text_format.fits path) (path_format.fits path) e
part_of (asks.Tree (tree_asks.Has path)) e = or_right (text_format.fits path) (path_format.fits path) e
part_of (asks.Tree (tree_asks.Children path)) e = refl
part_of (asks.Set (set_asks.Member n)) e = e
part_of (asks.Set (set_asks.Count low high)) e = refl
part_of (asks.Set (set_asks.Between low high)) e = refl

-- Over a run.

module _ (h : Header) (ms : Moves all_kinds) (r : Reaches all_kinds h ms (after all_kinds h ms)) (says : (t : Told all_kinds) → Has (after all_kinds h ms).told t → Says t.mark.tx t.mark.what) where
  abbrev end : World all_kinds
  end = after all_kinds h ms

  holds : RunHolds end
  holds = runs_hold h ms end r

  logs : LogHolds h ms end
  logs = logs_hold h ms end r

  legal : Legal all_kinds end.cluster.objects (history all_kinds end) (trace all_kinds end)
  legal = holds.headline.legal

  limit_near : (p : ℕ) → p < end.cluster.limit → nat_lt p (2 ^ 64) ≡ true
  limit_near p less = let top = limit_few h ms end r in near p (omega (arith, less, top))

  commit_near : (p : ℕ) → HasCommit all_kinds end p → nat_lt p (2 ^ 64) ≡ true
  commit_near p k = limit_near p (places_near all_kinds h ms end r p k.record_at k.here)

  first : (p : Oid) → any.is_object p ≡ true → any.is_state p (all_kinds.fresh p end.cluster.objects) ≡ true
  first p is = laws.first_is p end.cluster.objects is (header_kept end.cluster (subst (λ (g : Header). IsHeader g) (sym (cluster_is all_kinds h ms end r)) r.header))

  kept : (n : ℕ) (o : Oid) → any.is_object o ≡ true → any.is_state o (state_at all_kinds end.cluster.objects (history all_kinds end) n o) ≡ true
  kept n o is = states_kept end.cluster.objects (history all_kinds end) n o (λ d i. writes_are_ops h ms end r d i) first is

  -- the answer of a state of the history
  answered : (o : Oid) (q : AnyAsk) (n : ℕ) (a : AnyAns) → any.allowed_ask o q ≡ true → a ≡ all_kinds.answers (state_at all_kinds end.cluster.objects (history all_kinds end) n o) q → answer_fits q a ≡ true
  answered o q n a may is = subst (λ (x : AnyAns). answer_fits q x ≡ true) (sym is) (answers_fit o (state_at all_kinds end.cluster.objects (history all_kinds end) n o) q (kept n o (asked_object o q may)) may)

  -- a version is one past a stamp
  version_near : (ds : History all_kinds) (o : Oid) (k : Part) (n : ℕ) → ((d : DoneOf all_kinds) → Has ds d → d.stamp < 1000000) → changed all_kinds ds o k n ≤ 1000000
  unfolding changed
  version_near [] o k n f = omega arith
  version_near (d ∷ ds) o k n f = by (nat_lt d.stamp n && changes all_kinds d o k) (version_near ds o k n (λ e i. f e (inr i))) (f d (inl refl))
    where
      later : (a b : ℕ) (t : Bool) → a ≤ 1000000 → b ≤ 1000000 → cond t b a ≤ 1000000
      later a b true x y = y
      later a b false x y = x

      by : (t : Bool) → changed all_kinds ds o k n ≤ 1000000 → d.stamp < 1000000 → cond t (later_of all_kinds (d.stamp + 1) (changed all_kinds ds o k n)) (changed all_kinds ds o k n) ≤ 1000000
      by true le less = later (d.stamp + 1) (changed all_kinds ds o k n) _ (omega (arith, less)) le
      by false le less = le

  module _ (t : Told all_kinds) (i : Has end.told t) where
    abbrev tells : WhatOf all_kinds → Type 0
    tells what = Tells all_kinds (trace all_kinds end) t.mark.client t.mark.tx what

    tells_so : (what : WhatOf all_kinds) → t.mark.what ≡ what → 0 < t.mark.tx → tells what
    tells_so what is positive = subst tells is (record { number = positive; event = t.mark.event; here = history_members.contained_has (trace all_kinds end) t.mark (has_mark all_kinds end.told t (history_members.has_contained end.told t (contained end.told t i))) })

    fact : Fact all_kinds h ms t.mark
    fact = (state all_kinds h ms).facts t.mark (has_mark all_kinds end.told t (history_members.has_contained end.told t (contained end.told t i)))

    -- a reply of a record is of a transaction
    aborted_tx : (p : ℕ) (o : Oid) (k : Part) (seen now : ℕ) → t.mark.what ≡ told.Aborted p o k seen now → 0 < t.mark.tx
    aborted_tx p o k seen now is = by fact
      where
        no : (x : WhatOf all_kinds) (o' : Oid) (p' u : ℕ) → x ≡ told.Aborted p o k seen now → x ≡ told.Saved o' p' u → ⊥
        no x o' p' u a b = cc

        by : Fact all_kinds h ms t.mark → 0 < t.mark.tx
        by (IsOther y) = absurd (subst (Other all_kinds) is y)
        by (IsOfTx n y) = n
        by (IsSaved before rest e split o' p' u now' what) = absurd (no t.mark.what o' p' u is what)

    below : (what : WhatOf all_kinds) → t.mark.what ≡ what → TellsBelow end t.mark.client t.mark.tx what
    below what is = subst (TellsBelow end t.mark.client t.mark.tx) is (records_below h ms end r t (contained end.told t i))

    said : (what : WhatOf all_kinds) → t.mark.what ≡ what → Says t.mark.tx what
    said what is = subst (λ (x : WhatOf all_kinds). Says t.mark.tx x) is (says t i)

    -- an ask that was told
    asked_here : (o : Oid) (q : AnyAsk) (n : ℕ) (a : AnyAns) → tells (told.Asked o q n a) → Named o × AskOk q
    asked_here o q n a k =
        let m = Rattle.tg_law_layouts.proofs.Moves.Members.has_map (λ (x : Told all_kinds). x.mark) end.told _ (has_contained (trace all_kinds end) _ k.here) in
        let s = subst (λ (y : MarkOf all_kinds). Says y.tx y.what) (sym m.is) (says m.of m.has) in
        (s.0, s.1)

    fits : (what : WhatOf all_kinds) → t.mark.what ≡ what → ((b : ℕ) → what ≡ told.Refused (cause.TooLarge b) → b < 2 ^ 64) → what_fits what ≡ true
    fits told.Begin is n = refl
    fits (told.Put o op) is n = let s = said _ is in both (is_named o) (op_fits op) s.0 s.1
    fits (told.Asked o q at a) is n =
        let s = said _ is in
        both (is_named o) _ s.0 (both (ask_fits q) _ s.1 (both (nat_lt at (2 ^ 64)) (answer_fits q a) (near at s.3)
        (answered o q at a s.2 (legal.answers.at_snapshot t.mark.client t.mark.tx o q at a (tells_so _ is s.4)))))
    fits told.End is n = refl
    fits (told.Committed p) is n = near p (said _ is)
    fits (told.Aborted p o k seen now) is n =
        let c = legal.aborts.cause t.mark.client t.mark.tx p o k seen now (tells_so _ is (aborted_tx p o k seen now is)) in
        let q = asked_here o c.ask c.snapshot c.answer c.asked in
        let v = version_near (history all_kinds end) o k c.snapshot (λ d j. stamp_below h ms end r d j) in
        let z = version_near (history all_kinds end) o k p (λ d j. stamp_below h ms end r d j) in
        let was = c.was in
        let is_now = c.is in
        both (nat_lt p (2 ^ 64)) _ (limit_near p (below _ is)) (both (is_named o) _ q.0 (both (part_fits k) _ (subst (λ (x : Part). part_fits x ≡ true) c.looks (part_of c.ask q.1))
        (both (nat_lt seen (2 ^ 64)) (nat_lt now (2 ^ 64)) (near seen (omega (arith, v, was))) (near now (omega (arith, z, is_now))))))
    fits (told.Unsure p q) is n = both (nat_lt p (2 ^ 64)) (nat_lt q (2 ^ 64)) (limit_near p (below _ is)) (commit_near q (logs.rows.unsure t p q (contained end.told t i) is).1)
    fits told.Dropped is n = refl
    fits (told.Hosted o) is n = said _ is
    fits (told.Fate p b) is n = both (nat_lt p (2 ^ 64)) true (near p (said _ is)) refl
    fits (told.Decided p b) is n = both (nat_lt p (2 ^ 64)) true (near p (said _ is)) refl
    fits (told.Saved o p u) is n = let s = said _ is in both (is_named o) _ s.0 (both (nat_lt p (2 ^ 64)) (nat_lt u (2 ^ 64)) (near p s.1) (near u s.2))
    fits (told.Marked o j) is n = let s = said _ is in both (is_named o) (nat_lt j (2 ^ 64)) s.0 (near j s.1)
    fits (told.Trimmed j) is n =
        let k = logs.rows.trims t j (contained end.told t i) is in
        subst (λ (x : ℕ). nat_lt x (2 ^ 64) ≡ true) (sym k.floor) (floors_fit directory (state_at all_kinds end.cluster.objects (history all_kinds end) k.tail directory) (kept k.tail directory refl))
    fits (told.Installed e) is n = near e (said _ is)
    fits (told.Refused why) is n = why_fits why (said _ is) (λ b e. n b (ap (λ (x : Refusal). told.Refused x) e))
    fits (told.Copied u g s) is n = let k = said _ is in both (nat_lt u 65536) _ (few u k.0) (both (nat_lt g (2 ^ 64)) (nat_lt s (2 ^ 64)) (near g k.1) (near s k.2))
    fits (told.Past o q p a) is n =
        let s = said _ is in
        both (is_named o) _ s.0 (both (ask_fits q) _ s.1 (both (nat_lt p (2 ^ 64)) (answer_fits q a) (near p s.3) (answered o q p a s.2 (holds.headline.past t o q p a (contained end.told t i) is))))
    fits (told.Rescued p b) is n = both (nat_lt p (2 ^ 64)) true (near p (said _ is)) refl

    pub tells_fit : ((b : ℕ) → t.mark.what ≡ told.Refused (cause.TooLarge b) → b < 2 ^ 64) → what_fits t.mark.what ≡ true
    tells_fit n = fits t.mark.what refl n
