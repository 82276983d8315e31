-- What stays undecided has its cause: a read that is unknown, and no decision among the entries.
use Rattle.std.proofs.Common.{◌≡◌, ◌⊎◌, ℕ, ◌+◌, ◌<◌, List, [], ◌∷◌, ◌++◌, map, Bool, true, false, refl, sym, ap, ◌∙◌, subst, inl, inr, arith, Option, Some, None}
use Rattle.std.specs.Prelude.{Contains, nat_lt, ◌||◌}
use Rattle.tg_base.specs.Clusters.{Header}
use Rattle.tg_base.specs.Orders.{oid_eq}
use Rattle.tg_base.specs.declared.ids.Oid.{Oid}
use Rattle.tg_entry.specs.declared.entry.Body.{Body}
use Rattle.tg_entry.specs.declared.entry.Body.TheVariants.{Commit, Decision, Checkpoint}
use Rattle.tg_entry.specs.declared.entry.Entry.{Entry}
use Rattle.tg_entry.specs.Needs.{reads_of}
use Rattle.tg_kind.specs.Meaning.{Meaning}
use Rattle.tg_model.specs.declared.command.Command.TheVariants as cmd
use Rattle.tg_model.specs.declared.command.Event.TheVariants.{Command as Commands, Deliver, Lose, Tick, Stop}
use Rattle.tg_model.specs.declared.play.PlayEnd.TheVariants.{Played, Blocked}
use Rattle.tg_model.specs.declared.refusal.Refusal.TheVariants as cause
use Rattle.tg_model.specs.declared.trace.What.TheVariants as told
use Rattle.tg_model.specs.Kinds.{CommandOf, EventOf, WhatOf}
use Rattle.tg_protocol.specs.Words.{has_oid, or_else, cell_at, with_nums}
use Rattle.tg_protocol.specs.Pages.{cell_entry}
use Rattle.tg_protocol.specs.Entries.{is_commit, body_commits, decides, lists}
use Rattle.tg_protocol.specs.Logs.{Log, entries_of}
use Rattle.tg_protocol.specs.Views.{Entries, Base, View, Play, Aborts, decision_in, unknown_in, changed_in, verdict, view_start, play}
use Rattle.tg_protocol.specs.Checkpoints.{TrimPoints, trim_of}
use Rattle.tg_protocol.specs.Past.{commit_at, PastTurn, PastView, PastGone, StuckAt, last_base, past_base, past_play, past_or_gone, past_by, past_at, rescue_turn}
use Rattle.tg_protocol.specs.Clients.{Work, Client, entries_at, hosts_oid, all_entries, member_entries, member_positions, below}
use Rattle.tg_protocol.specs.Answers.{walked}
use Rattle.tg_protocol.specs.Walked.{Walked, walked_in}
use Rattle.tg_protocol.specs.Worlds.{World, Told, client, log, happens}
use Rattle.tg_protocol.specs.Alike.{HasEntry}
use Rattle.tg_protocol.specs.Playing.{Replies}
use Rattle.tg_protocol.specs.Stuck.{WalkMetTrim, command_in}
use Rattle.tg_protocol.specs.Causes.{HasReadOf, IsFor, IsUnknown, LacksDecision, IsOutOfReach, CantKnow, given_in, command_at, HasCause, IsUnsure}
use Rattle.tg_protocol.specs.Runs.{Moves, Takes, Reaches, LawfulEvent, most_steps}
use Rattle.tg_law_layouts.specs.Moves.After.{after}
use Rattle.tg_law_replies.specs.History.Worlds.{entries_in}
use Rattle.tg_law_replies.specs.Plays.Sound.{base_among}
use Rattle.tg_law_replies.specs.Replies.Ended.{AppendsEnd}
use Rattle.tg_law_replies.specs.Replies.Laws.{ClientsFind}
use Rattle.tg_law_replies.proofs.History.Members.{Has, has_contained, contained_has, has_kept, oid_itself}
use Rattle.tg_law_replies.proofs.Views.Judges.{mine_below}
use Rattle.tg_law_replies.proofs.Views.Settled.{plays_further}
use Rattle.tg_law_walks.specs.Lists.Spared.{TrimsWereSpare}
use Rattle.tg_law_walks.specs.Walks.Rounds.{round, IsRound}
use Rattle.tg_law_walks.proofs.Drafts.Written.{then_takes}
use Rattle.tg_law_walks.proofs.Walks.Cells.{there_entry}
use Rattle.tg_law_walks.proofs.Walks.Rounds.{read_entry}
use Rattle.tg_law_walks.proofs.Walks.Positions.{nums_split, has_filter, filter_passes}
use Rattle.tg_law_walks.proofs.Walks.Saves.{entries_have, have_entries}
use Rattle.tg_law_walks.proofs.Walks.Syncs.{logs_by_position}
use Rattle.tg_law_syncs.proofs.Exact.Finds.{rounds_exact}
use Rattle.tg_law_headline.proofs.Leaves.Leaving.{mine_of}
use Rattle.tg_law_claims.specs.Causes.Undecidings.{UndecidedTrue, LacksRecord, UnsureUnlessLacking}
use Rattle.tg_law_claims.proofs.Causes.EndsGive.{ends_give}
use Rattle.tg_law_claims.proofs.Causes.Judging.{never_unchanged}
use Rattle.tg_law_claims.proofs.Causes.Stalling.{Plain, Brief, PlaysKept, widens, Unknowns, IsBlocked, blocked_there, SeenBy, Said, hosted_entries, kept_play, walked_so}
use Rattle.tg_law_claims.proofs.Causes.HeardAlong.{Met}
use Rattle.tg_law_claims.proofs.Causes.OwnAlong.{owns_commit}
use Rattle.tg_law_claims.proofs.Causes.PastBases.{past_oid, past_up}
use Rattle.tg_law_claims.proofs.Causes.Rescuing.{has_oid_has, trim_has, reads_trimmed, none_among, playing, rescue_stuck, stuck_trimmed}
use Rattle.tg_law_claims.proofs.Causes.Stalled.{goes_reach, command_waits, AtWalksEnd, ends_tell, undecided_ends, met_of}

pub has_has_oid : (o : Oid) (os : List Oid) → Has os o → has_oid o os ≡ true
has_has_oid o [] i = absurd i
has_has_oid o (x ∷ os) (inl e) = first (oid_eq o x) (has_oid o os) (subst (λ (y : Oid). oid_eq o y ≡ true) e (oid_itself o))
  where
    first : (a b : Bool) → a ≡ true → (a || b) ≡ true
    first a b e = grind arith
has_has_oid o (x ∷ os) (inr i) = later (oid_eq o x) (has_oid o os) (has_has_oid o os i)
  where
    later : (a b : Bool) → b ≡ true → (a || b) ≡ true
    later a b e = grind arith

-- none of some entries decides what together they don't
none_there : (fs : Entries) (p : ℕ) (y : ℕ × Entry) → Has fs y → decision_in fs p ≡ None → decides p y.1.body ≡ None
unfolding decision_in
none_there [] p y i none = absurd i
none_there (z ∷ fs) p y i none = by (decides p z.1.body) refl none i (λ j k. none_there fs p y j k)
  where
    by : (o : Option Bool) → decides p z.1.body ≡ o → or_else o (decision_in fs p) ≡ None → Has (z ∷ fs) y → (Has fs y → decision_in fs p ≡ None → decides p y.1.body ≡ None) → decides p y.1.body ≡ None
    by None is k (inl e) rest = subst (λ (u : ℕ × Entry). decides p u.1.body ≡ None) (sym e) is
    by None is k (inr j) rest = rest j k
    by (Some b) is k j rest = absurd (cc)

-- A step's client at the end of its walks, over the log to which the step comes.
module _ (m : Meaning) (h : Header) (ms : Moves m) (e : EventOf m) (r : Reaches m h (ms ++ Takes e ∷ []) (after m h (ms ++ Takes e ∷ []))) (trims : TrimsWereSpare m h (ms ++ Takes e ∷ [])) (t : Told m) (k : AtWalksEnd m h ms e r trims t) where
  abbrev v : World m
  v = happens m (after m h ms) e

  abbrev end : World m
  end = after m h (ms ++ Takes e ∷ [])

  abbrev c : Client m
  c = k.end.client

  abbrev x : Work m
  x = k.end.work

  abbrev l : Log
  l = log m (after m h (ms ++ Takes e ∷ []))

  pub found : IsRound m (log m (after m h (ms ++ Takes e ∷ []))) (round m k.end.client k.end.work k.end.client.cells) []
  found =
      ends_give m h.objects (entries_in m (after m h (ms ++ Takes e ∷ []))) (λ d y. IsRound m (log m (after m h (ms ++ Takes e ∷ []))) (round m d y d.cells) []) (after m h ms) t.mark.client e k.end
      (rounds_exact m h (ms ++ Takes e ∷ []) (after m h (ms ++ Takes e ∷ [])) r trims ms [] e refl) k.ended

  -- an entry that it has is the log's
  pub entry_there : (ps : List ℕ) (p : ℕ) (d : Entry) → Has (entries_at m k.end.client.cells ps) (p, d) → HasEntry m (after m h (ms ++ Takes e ∷ [])) p d
  entry_there ps p d i =
      let g = entries_have m k.end.client.cells ps p d i in
      contained_has (entries_of (log m (after m h (ms ++ Takes e ∷ [])))) (p, d) (there_entry (log m (after m h (ms ++ Takes e ∷ []))) p d (read_entry m (log m (after m h (ms ++ Takes e ∷ []))) (logs_by_position m (after m h (ms ++ Takes e ∷ []))) k.end.client.cells p d found.known g.1))

  -- the read of a record that it doesn't know
  read_of : (ps : List ℕ) (u : View m) (p : ℕ) (o : Oid) → Unknowns m (entries_at m k.end.client.cells ps) u p o → HasReadOf m (after m h (ms ++ Takes e ∷ [])) p o
  read_of ps u p o n = record { entry = n.entry; here = entry_there ps p n.entry n.here; commit = n.commit; read = n.read; reads = contained_has (reads_of n.entry) n.read n.reads; of = n.of }

  -- what its kept view doesn't know
  unknown_of : (d : Client m) (p : ℕ) (o : Oid) → client m (after m h (ms ++ Takes e ∷ [])) t.mark.client ≡ record d { calls = d.calls + 1 } → SeenBy m k.end.client k.end.work d → Unknowns m (hosted_entries m k.end.client k.end.work) (kept_play m k.end.client k.end.work).view p o
      → IsUnknown m (after m h (ms ++ Takes e ∷ [])) t p o
  unfolding read_of
  unknown_of d p o now s n = record {
    reads = read_of _ (kept_play m k.end.client k.end.work).view p o n;
    seen = for (mine_of m (log m (after m h (ms ++ Takes e ∷ []))) (logs_by_position m (after m h (ms ++ Takes e ∷ []))) k.end.client k.end.work found p n.entry (contained_has (hosted_entries m k.end.client k.end.work) (p, n.entry) n.here)).1;
    below = record {
      tail = k.end.work.tail;
      links = k.end.work.lasts;
      synced = record { rid = k.heard.tail.rid; now = k.heard.tail.now; sent = k.heard.tail.sent };
      below = mine_below m k.end.client k.end.work k.end.client.hosted p n.entry n.here;
    };
    view = (kept_play m k.end.client k.end.work).view;
    is = ap (λ (y : Client m). y.view) now ∙ s.view;
    unknown = n.unknown;
  }
    where
      hosts : (o : Oid) → Contains k.end.client.hosted o → hosts_oid m (client m (after m h (ms ++ Takes e ∷ [])) t.mark.client) o ≡ true
      hosts o i = has_has_oid o (client m (after m h (ms ++ Takes e ∷ [])) t.mark.client).hosted (subst (λ (os : List Oid). Has os o) (sym (ap (λ (y : Client m). y.hosted) now ∙ s.hosted)) (has_contained k.end.client.hosted o i))

      for : Contains k.end.client.own p ⊎ ((o : Oid) × Contains k.end.client.hosted o × (lists n.entry o ≡ true)) → IsFor m (client m (after m h (ms ++ Takes e ∷ [])) t.mark.client) p n.entry
      for (inl i) = inl (subst (λ (ps : List ℕ). Contains ps p) (sym (ap (λ (y : Client m). y.own) now ∙ s.own_same)) i)
      for (inr g) = inr (g.0, hosts g.0 g.1, g.2)

  -- what its command had
  lacks_of : (p : ℕ) → decision_in (all_entries m k.end.client k.end.work k.end.work.oids) p ≡ None → LacksDecision m (after m h ms) e t p
  lacks_of p none = record { had = k.end; walked = k.ended; none = none }

  lacks_own : (p : ℕ) → widens m k.end.work.command ≡ false → decision_in (hosted_entries m k.end.client k.end.work) p ≡ None → LacksDecision m (after m h ms) e t p
  lacks_own p narrow none = lacks_of p (subst (λ (os : List Oid). decision_in (all_entries m k.end.client k.end.work os) p ≡ None) (sym (k.heard.streams narrow)) none)

  kept_narrow : (y : CommandOf m) → PlaysKept m y → widens m y ≡ false
  kept_narrow (cmd.AskAt p o q) kept = absurd kept
  kept_narrow (cmd.Rescue p) kept = absurd kept
  kept_narrow y kept = refl

  kept_cant : (y : CommandOf m) (p : ℕ) (o : Oid) → PlaysKept m y → IsUnknown m (after m h (ms ++ Takes e ∷ [])) t p o → CantKnow m y (after m h (ms ++ Takes e ∷ [])) t p o
  kept_cant (cmd.AskAt a z q) p o kept n = absurd kept
  kept_cant (cmd.Rescue a) p o kept n = absurd kept
  kept_cant y p o kept n = n

  -- a trim that it met
  met_trim : (o : Oid) → (below : ℕ) × (trim_of k.end.work.trims o ≡ Some below) → WalkMetTrim m (after m h (ms ++ Takes e ∷ [])) t o
  met_trim o g =
      let z = trim_has k.end.work.trims o g.0 g.1 in
      met_of m h ms e r trims t o (subst (Met m h (ms ++ Takes e ∷ []) r trims t.mark.client t.noted.next) z.2 (k.heard.met z.0 z.1))

  -- A past view.

  abbrev mine : Entries
  mine = member_entries m k.end.client k.end.work k.end.work.oids

  pub past_view : (es : Entries) (gone : TrimPoints) (oids objects : List Oid) (o : Oid) (at : ℕ) (u : Play m) → past_at m es gone oids objects o at ≡ PastView u → u ≡ past_play m es gone oids objects at
  unfolding past_at
  past_view es gone oids objects o at u is = by (trim_of gone o) is
    where
      one : (a b : Play m) → PastView a ≡ PastView b → b ≡ a
      one a b f = cc

      gone_view : (below : ℕ) (b : Play m) → ◌≡◌ {A = PastTurn m} (PastGone below) (PastView b) → ⊥
      gone_view below b f = cc

      based : (below : ℕ) (b : Option (Base m)) → past_or_gone m b below (past_play m es gone oids objects at) ≡ PastView u → u ≡ past_play m es gone oids objects at
      based below None f = absurd (gone_view below u f)
      based below (Some b) f = one (past_play m es gone oids objects at) u f

      by : (g : Option ℕ) → past_by m es o at g (past_play m es gone oids objects at) ≡ PastView u → u ≡ past_play m es gone oids objects at
      by None f = one (past_play m es gone oids objects at) u f
      by (Some below) f = based below (last_base m es o below at) f

  -- a read that is blocked there is of an object that isn't hosted, or whose walk met a trim
  module _ (p : ℕ) (o : Oid) (u : Play m) (q : ℕ) (b : Oid) (view : past_at m (member_entries m k.end.client k.end.work k.end.work.oids) k.end.work.trims k.end.work.oids k.end.client.objects o p ≡ PastView u) (came : u.came ≡ Blocked q b) where
    abbrev f : Oid → Base m
    f = past_base m (member_entries m k.end.client k.end.work k.end.work.oids) k.end.work.trims k.end.client.objects p

    abbrev pub started : View m
    started = view_start m (map (past_base m (member_entries m k.end.client k.end.work k.end.work.oids) k.end.work.trims k.end.client.objects p) k.end.work.oids)

    pub blocked : IsBlocked m (member_entries m k.end.client k.end.work k.end.work.oids) (play m started (member_entries m k.end.client k.end.work k.end.work.oids) p).view p q b
    blocked = blocked_there m (member_entries m k.end.client k.end.work k.end.work.oids) started p q b
        (ap (λ (y : Play m). y.came) (sym (past_view (member_entries m k.end.client k.end.work k.end.work.oids) k.end.work.trims k.end.work.oids k.end.client.objects o p u view)) ∙ came)

    of_trims : (base_among m (map f k.end.work.oids) b ≡ None) ⊎ ((below : ℕ) × (trim_of k.end.work.trims b ≡ Some below))
    unfolding view_start
    of_trims = reads_trimmed m k.end.work.trims f (past_oid m (member_entries m k.end.client k.end.work k.end.work.oids) k.end.work.trims k.end.client.objects p)
        (past_up m (member_entries m k.end.client k.end.work k.end.work.oids) k.end.work.trims k.end.client.objects p) k.end.work.oids (member_entries m k.end.client k.end.work k.end.work.oids)
        (play m started (member_entries m k.end.client k.end.work k.end.work.oids) p).view q b (plays_further m (member_entries m k.end.client k.end.work k.end.work.oids) started p).bases blocked.unknowns

    out_of_reach : (d : Client m) → client m (after m h (ms ++ Takes e ∷ [])) t.mark.client ≡ record d { calls = d.calls + 1 } → d.hosted ≡ k.end.client.hosted → widens m k.end.work.command ≡ false → IsOutOfReach m (after m h (ms ++ Takes e ∷ [])) t b
    out_of_reach d now hosted narrow = by of_trims (hosts_oid m (client m (after m h (ms ++ Takes e ∷ [])) t.mark.client) b) refl
      where
        same : (client m (after m h (ms ++ Takes e ∷ [])) t.mark.client).hosted ≡ k.end.work.oids
        same = ap (λ (y : Client m). y.hosted) now ∙ (hosted ∙ sym (k.heard.streams narrow))

        by : (base_among m (map f k.end.work.oids) b ≡ None) ⊎ ((below : ℕ) × (trim_of k.end.work.trims b ≡ Some below)) → (z : Bool) → hosts_oid m (client m (after m h (ms ++ Takes e ∷ [])) t.mark.client) b ≡ z → IsOutOfReach m (after m h (ms ++ Takes e ∷ [])) t b
        by (inr g) z is = inr (met_trim b g)
        by (inl none) false is = inl is
        by (inl none) true is =
            absurd (none_among m k.end.work.trims f (past_oid m (member_entries m k.end.client k.end.work k.end.work.oids) k.end.work.trims k.end.client.objects p)
            (past_up m (member_entries m k.end.client k.end.work k.end.work.oids) k.end.work.trims k.end.client.objects p) k.end.work.oids b
            (has_oid_has b k.end.work.oids (ap (λ (os : List Oid). has_oid b os) (sym same) ∙ is)) none)

    past_cant : (d : Client m) → client m (after m h (ms ++ Takes e ∷ [])) t.mark.client ≡ record d { calls = d.calls + 1 } → d.hosted ≡ k.end.client.hosted → widens m k.end.work.command ≡ false
        → (q < p) × HasReadOf m (after m h (ms ++ Takes e ∷ [])) q b × IsOutOfReach m (after m h (ms ++ Takes e ∷ [])) t b
    past_cant d now hosted narrow = (blocked.below, read_of _ (play m started (member_entries m k.end.client k.end.work k.end.work.oids) p).view q b blocked.unknowns, out_of_reach d now hosted narrow)

  -- the command that waited, which a delivery ends
  given_none : (x : EventOf m) (n : ℕ) (y : Walked m) → walked_in m (after m h ms) x n ≡ Some y → given_in m x n ≡ None
  given_none (Deliver i) n y is = refl
  given_none (Commands j z) n y is = absurd (cc)
  given_none (Lose i) n y is = refl
  given_none (Tick i) n y is = refl
  given_none (Stop i) n y is = refl

  pub waited : command_at m (after m h ms) e t.mark.client ≡ Some k.end.work.command
  waited = ap (λ (o : Option (CommandOf m)). or_else o (command_in m (client m (after m h ms) t.mark.client).work)) (given_none e t.mark.client k.end k.ended) ∙ command_waits m (after m h ms) t.mark.client e k.end k.ended

  now_at : client m (after m h (ms ++ Takes e ∷ [])) t.mark.client ≡ record (walked m k.end.client k.end.work).now { calls = (walked m k.end.client k.end.work).now.calls + 1 }
  now_at = subst (λ (u : World m). client m u t.mark.client ≡ record (walked m k.end.client k.end.work).now { calls = (walked m k.end.client k.end.work).now.calls + 1 }) (sym (then_takes m h ms e)) k.now

  -- The client's own records decide nothing.
  module _ (owns : (q : ℕ) (d : Entry) → Contains k.end.client.own q → HasEntry m (after m h (ms ++ Takes e ∷ [])) q d → is_commit d ≡ true)
      (changed : k.end.work.command ≡ cmd.End → (n : ℕ) (d : Entry) → (kept_play m k.end.client k.end.work).came ≡ Played n → commit_at (hosted_entries m k.end.client k.end.work) k.end.work.at ≡ Some d → verdict m (kept_play m k.end.client k.end.work).view (hosted_entries m k.end.client k.end.work) k.end.work.at d ≡ Aborts
      → unknown_in m (kept_play m k.end.client k.end.work).view (reads_of d) k.end.work.at ≡ None → changed_in m (kept_play m k.end.client k.end.work).view (reads_of d) k.end.work.at ≡ None → ⊥) where
    none_decides : (es fs : Entries) (p : ℕ) → ((y : ℕ × Entry) → Has es y → Has fs y ⊎ (is_commit y.1 ≡ true)) → decision_in fs p ≡ None → decision_in es p ≡ None
    unfolding decision_in
    none_decides [] fs p f none = refl
    none_decides (y ∷ es) fs p f none = by (f y (inl refl)) (none_decides es fs p (λ z i. f z (inr i)) none)
      where
        commits : (b : Body) → body_commits b ≡ true → decides p b ≡ None
        commits (Commit rs ws) i = refl
        commits (Decision at so) i = absurd (cc)
        commits (Checkpoint s u n whole keys state) i = absurd (cc)

        skipped : (o : Option Bool) → o ≡ None → decision_in es p ≡ None → or_else o (decision_in es p) ≡ None
        skipped None i rest = rest
        skipped (Some b) i rest = absurd (cc)

        by : Has fs y ⊎ (is_commit y.1 ≡ true) → decision_in es p ≡ None → or_else (decides p y.1.body) (decision_in es p) ≡ None
        by (inl i) rest = skipped (decides p y.1.body) (none_there fs p y i none) rest
        by (inr i) rest = skipped (decides p y.1.body) (commits y.1.body i) rest

    abbrev had : List ℕ
    had = member_positions m k.end.work k.end.work.oids

    split_had : (y : ℕ × Entry) → Has (all_entries m k.end.client k.end.work k.end.work.oids) y → Has (member_entries m k.end.client k.end.work k.end.work.oids) y ⊎ (is_commit y.1 ≡ true)
    split_had y i = by (nums_split k.end.client.own had y.0 (has_kept (λ (n : ℕ). nat_lt n k.end.work.tail) (with_nums k.end.client.own had) y.0 g.0))
      where
        g : Has (below m k.end.work.tail (with_nums k.end.client.own had)) y.0 × (cell_entry (cell_at k.end.client.cells y.0) ≡ Some y.1)
        g = entries_have m k.end.client.cells (below m k.end.work.tail (with_nums k.end.client.own had)) y.0 y.1 i

        by : Has k.end.client.own y.0 ⊎ Has had y.0 → Has (member_entries m k.end.client k.end.work k.end.work.oids) y ⊎ (is_commit y.1 ≡ true)
        by (inl j) = inr (owns y.0 y.1 (contained_has k.end.client.own y.0 j) (entry_there (below m k.end.work.tail (with_nums k.end.client.own had)) y.0 y.1 i))
        by (inr j) = inl (have_entries m k.end.client.cells (below m k.end.work.tail had) y.0 y.1 (has_filter (λ (n : ℕ). nat_lt n k.end.work.tail) had y.0 j (passed (below m k.end.work.tail (with_nums k.end.client.own had)) g.0)) g.1)
          where
            passed : (ps : List ℕ) → Has (below m k.end.work.tail (with_nums k.end.client.own had)) y.0 → nat_lt y.0 k.end.work.tail ≡ true
            passed ps z = filter_passes (λ (n : ℕ). nat_lt n k.end.work.tail) (with_nums k.end.client.own had) y.0 z

    pub lacks_past : (p : ℕ) → decision_in (member_entries m k.end.client k.end.work k.end.work.oids) p ≡ None → LacksDecision m (after m h ms) e t p
    lacks_past p none = lacks_of p (none_decides (all_entries m k.end.client k.end.work k.end.work.oids) (member_entries m k.end.client k.end.work k.end.work.oids) p split_had none)

    -- The cause of a refusal.

    abbrev Later : ℕ → Oid → Type 0
    Later p o = CantKnow m k.end.work.command (after m h (ms ++ Takes e ∷ [])) t p o × LacksDecision m (after m h ms) e t p

    abbrev Ok : Client m → WhatOf m → Type 0
    Ok d (told.Refused (cause.Undecided p o)) = client m (after m h (ms ++ Takes e ∷ [])) t.mark.client ≡ record d { calls = d.calls + 1 } → Later p o
    Ok d (told.Unsure a p) = client m (after m h (ms ++ Takes e ∷ [])) t.mark.client ≡ record d { calls = d.calls + 1 } → IsUnsure m (after m h ms) e t a p ⊎ ((p ≡ a) × LacksRecord m (after m h ms) e t a)
    Ok d what = Unit {0}

    ok_plain : (d : Client m) (what : WhatOf m) → Plain m what → Ok d what
    ok_plain d (told.Refused (cause.Undecided p o)) plain = absurd plain
    ok_plain d (told.Unsure a p) plain = absurd plain
    ok_plain d what plain = tt

    rescue_later : (a q : ℕ) (b : Oid) → k.end.work.command ≡ cmd.Rescue a → rescue_turn m (all_entries m k.end.client k.end.work k.end.work.oids) k.end.work.trims k.end.work.oids k.end.client.objects a ≡ StuckAt q b → Later q b
    rescue_later a q b is turn =
        let s = rescue_stuck m (all_entries m k.end.client k.end.work k.end.work.oids) k.end.work.trims k.end.client.objects k.end.work.oids a q b turn in
        let g = stuck_trimmed m (all_entries m k.end.client k.end.work k.end.work.oids) k.end.work.trims k.end.client.objects k.end.work.oids a q b s in
        (subst (λ (y : CommandOf m). CantKnow m y (after m h (ms ++ Takes e ∷ [])) t q b) (sym is) (s.blocks.upto, read_of _ (playing m (all_entries m k.end.client k.end.work k.end.work.oids) k.end.work.trims k.end.client.objects k.end.work.oids a).view q b s.blocks.unknowns, met_trim b g), lacks_of q s.blocks.undecided)

    past_later : (d : Client m) (p : ℕ) (o : Oid) (z : m.ask) (u : Play m) (q : ℕ) (b : Oid) → k.end.work.command ≡ cmd.AskAt p o z → d.hosted ≡ k.end.client.hosted
        → past_at m (member_entries m k.end.client k.end.work k.end.work.oids) k.end.work.trims k.end.work.oids k.end.client.objects o p ≡ PastView u → u.came ≡ Blocked q b
        → client m (after m h (ms ++ Takes e ∷ [])) t.mark.client ≡ record d { calls = d.calls + 1 } → Later q b
    past_later d p o z u q b is hosted view came now = (
      subst (λ (y : CommandOf m). CantKnow m y (after m h (ms ++ Takes e ∷ [])) t q b) (sym is) (past_cant p o u q b view came d now hosted (ap (λ (y : CommandOf m). widens m y) is)),
      lacks_past q (blocked p o u q b view came).undecided,
    )

    kept_later : (d : Client m) (p : ℕ) (o : Oid) → PlaysKept m k.end.work.command → SeenBy m k.end.client k.end.work d → Unknowns m (hosted_entries m k.end.client k.end.work) (kept_play m k.end.client k.end.work).view p o → decision_in (hosted_entries m k.end.client k.end.work) p ≡ None
        → client m (after m h (ms ++ Takes e ∷ [])) t.mark.client ≡ record d { calls = d.calls + 1 } → Later p o
    kept_later d p o kept s n none now = (kept_cant k.end.work.command p o kept (unknown_of d p o now s n), lacks_own p (kept_narrow k.end.work.command kept) none)

    said : Said m Ok ok_plain (walked m k.end.client k.end.work)
    said = walked_so m Ok ok_plain k.end.client k.end.work (record {
      undecided = λ d p o kept s n none now. kept_later d p o kept s n none now;
      unsure = λ d q o ending s n le f now. inl (record {
        upto = le;
        missing = o;
        unknown = subst (λ (u : World m). IsUnknown m u t q o) (then_takes m h ms e) (unknown_of d q o now s n);
        lacks = λ l. lacks_own q (ap (λ (y : CommandOf m). widens m y) ending) (f l);
      });
      none = λ d a ending came none now. inr (
        refl,
        record {
          had = k.end;
          walked = k.ended;
          none = subst (λ (os : List Oid). commit_at (all_entries m k.end.client k.end.work os) k.end.work.at ≡ None) (sym (k.heard.streams (ap (λ (y : CommandOf m). widens m y) ending))) none;
        },
      );
      same = λ d a y ending came at says known eq now. absurd (changed ending a y came at says known eq);
      no_save = λ d o n is s none. tt;
      is_open = λ d o n p is s some. tt;
      no_state = λ d o z is s none. tt;
      no_past = λ d p o z u is view none. tt;
      past = λ d p o z u q b is hosted view came now. past_later d p o z u q b is hosted view came now;
      rescue = λ d a q b is turn now. rescue_later a q b is turn;
    })

    pub is_unsure : (a p : ℕ) → t.mark.what ≡ told.Unsure a p → IsUnsure m (after m h ms) e t a p ⊎ ((p ≡ a) × LacksRecord m (after m h ms) e t a)
    is_unsure a p what = ends_tell m Ok ok_plain h ms e r trims t k said (told.Unsure a p) what now_at

    pub has_cause : (p : ℕ) (o : Oid) → t.mark.what ≡ told.Refused (cause.Undecided p o) → HasCause m (after m h ms) e t (cause.Undecided p o)
    has_cause p o what =
        let later = ends_tell m Ok ok_plain h ms e r trims t k said (told.Refused (cause.Undecided p o)) what now_at in
        record { command = k.end.work.command; answered = waited; because = inr (subst (λ (u : World m). CantKnow m k.end.work.command u t p o) (then_takes m h ms e) later.0, later.1) }

-- Of a step of a run in which trims were spare and appends end where they say.
module _ (m : Meaning) (h : Header) (ms : Moves m) (e : EventOf m) (r : Reaches m h (ms ++ Takes e ∷ []) (after m h (ms ++ Takes e ∷ []))) (trims : TrimsWereSpare m h (ms ++ Takes e ∷ [])) (ends : AppendsEnd m h (ms ++ Takes e ∷ []) (after m h (ms ++ Takes e ∷ []))) (finds : ClientsFind m h (ms ++ Takes e ∷ []) (after m h (ms ++ Takes e ∷ []))) where
  owns_of : (t : Told m) (k : AtWalksEnd m h ms e r trims t) (q : ℕ) (d : Entry) → Contains k.end.client.own q → HasEntry m (after m h (ms ++ Takes e ∷ [])) q d → is_commit d ≡ true
  owns_of t k q d i at = owns_commit m h (ms ++ Takes e ∷ []) r ends ms [] e refl t.mark.client k.end k.ended q d i at

  end_of : (t : Told m) → Replies m (after m h ms) e t → (Brief m t.mark.what → ⊥) → AtWalksEnd m h ms e r trims t
  end_of t replies some = undecided_ends m h ms e r trims replies.replies t replies.are (has_contained replies.replies t replies.here) some

  undecided_there : UndecidedTrue m (after m h ms) e
  undecided_there t p o replies what = let k = end_of t replies (λ brief. subst (Brief m) what brief) in has_cause m h ms e r trims t k (owns_of t k) (never_unchanged m h ms e r finds ends t.mark.client k.end k.ended) p o what

  unsure_there : UnsureUnlessLacking m (after m h ms) e
  unsure_there t a p replies what = let k = end_of t replies (λ brief. subst (Brief m) what brief) in is_unsure m h ms e r trims t k (owns_of t k) (never_unchanged m h ms e r finds ends t.mark.client k.end k.ended) a p what

module _ (m : Meaning) (h : Header) (ms : Moves m) (w : World m) (e : EventOf m) (r : Reaches m h ms w) (lawful : LawfulEvent m h e) (few : w.steps < most_steps) (trims : TrimsWereSpare m h (ms ++ Takes e ∷ [])) (ends : AppendsEnd m h (ms ++ Takes e ∷ []) (happens m w e)) (finds : ClientsFind m h (ms ++ Takes e ∷ []) (happens m w e)) where
  reach : Reaches m h (ms ++ Takes e ∷ []) (after m h (ms ++ Takes e ∷ []))
  reach = let g = goes_reach m h ms w e r lawful few in subst (Reaches m h (ms ++ Takes e ∷ [])) g.goes.is g

  ends_there : AppendsEnd m h (ms ++ Takes e ∷ []) (after m h (ms ++ Takes e ∷ []))
  ends_there = let g = goes_reach m h ms w e r lawful few in subst (AppendsEnd m h (ms ++ Takes e ∷ [])) g.goes.is ends

  finds_there : ClientsFind m h (ms ++ Takes e ∷ []) (after m h (ms ++ Takes e ∷ []))
  finds_there = let g = goes_reach m h ms w e r lawful few in subst (ClientsFind m h (ms ++ Takes e ∷ [])) g.goes.is finds

  pub undecided_true : UndecidedTrue m w e
  undecided_true = subst (λ (u : World m). UndecidedTrue m u e) (sym r.goes.is) (undecided_there m h ms e reach trims ends_there finds_there)

  pub unsure_unless_lacking : UnsureUnlessLacking m w e
  unsure_unless_lacking = subst (λ (u : World m). UnsureUnlessLacking m u e) (sym r.goes.is) (unsure_there m h ms e reach trims ends_there finds_there)
