-- Where a past view or a rescue stays undecided: what its view begins with doesn't tell the version of what a record reads.
use Rattle.std.proofs.Common.{◌≡◌, ◌⊎◌, ℕ, ◌+◌, ◌<◌, ◌≤◌, List, [], ◌∷◌, ◌++◌, map, true, false, sym, ap, ◌∙◌, subst, inl, inr, arith, Option, Some, None}
use Rattle.std.specs.Prelude.{Contains}
use Rattle.tg_base.specs.Clusters.{Header}
use Rattle.tg_base.specs.declared.ids.Oid.{Oid}
use Rattle.tg_base.specs.declared.msg.Msg.TheVariants as msg
use Rattle.tg_entry.specs.Needs.{reads_of}
use Rattle.tg_entry.specs.declared.entry.Entry.{Entry}
use Rattle.tg_kind.specs.Meaning.{Meaning}
use Rattle.tg_model.specs.declared.command.Command.TheVariants as cmd
use Rattle.tg_model.specs.declared.play.PlayEnd.TheVariants.{Blocked}
use Rattle.tg_model.specs.declared.refusal.Refusal.TheVariants as cause
use Rattle.tg_model.specs.declared.trace.What.TheVariants as told
use Rattle.tg_model.specs.Kinds.{CommandOf, EventOf, WhatOf}
use Rattle.tg_protocol.specs.Alike.{SentNow}
use Rattle.tg_protocol.specs.Answers.{walked}
use Rattle.tg_protocol.specs.Causes.{HasReadOf, LacksDecision, CauseAtOnce, CauseLater, HasCause}
use Rattle.tg_protocol.specs.Clients.{Client, entries_at, all_entries, member_entries}
use Rattle.tg_protocol.specs.Playing.{Replies}
use Rattle.tg_protocol.specs.Checkpoints.{view_bases}
use Rattle.tg_protocol.specs.Past.{PastView, commit_at, past_base, past_at, StuckAt, rescue_turn}
use Rattle.tg_protocol.specs.Runs.{Moves, Takes, Reaches}
use Rattle.tg_protocol.specs.Stuck.{command_in}
use Rattle.tg_protocol.specs.Views.{Entries, Base, View, Play, base_of, unknown_by, unknown_in, decision_in, passed_over, play}
use Rattle.tg_protocol.specs.Walked.{Walked, entries_had}
use Rattle.tg_protocol.specs.Worlds.{World, Told, client, log, happens}
use Rattle.tg_law_layouts.specs.Moves.After.{after}
use Rattle.tg_law_layouts.proofs.Moves.Lists.{contained}
use Rattle.tg_law_replies.specs.Plays.Sound.{base_among}
use Rattle.tg_law_replies.proofs.History.Members.{has_contained, contained_has}
use Rattle.tg_law_replies.proofs.Views.Judges.{blocked_stands}
use Rattle.tg_law_replies.proofs.Views.Settled.{unknown_same, plays_further}
use Rattle.tg_law_walks.specs.Lists.Spared.{TrimsWereSpare}
use Rattle.tg_law_walks.proofs.Drafts.Written.{then_takes}
use Rattle.tg_law_walks.proofs.Walks.Plays.{own_rising}
use Rattle.tg_law_walks.proofs.Walks.Syncs.{logs_by_position}
use Rattle.tg_law_claims.specs.Causes.Undecidings.{UndecidedTrue}
use Rattle.tg_law_claims.proofs.Causes.Causing as causing
use Rattle.tg_law_claims.proofs.Causes.Rescuing.{has_oid_has, IsStuck, playing, rescue_stuck}
use Rattle.tg_law_claims.proofs.Causes.Stalled.{AtWalksEnd, ends_tell, command_waits, undecided_ends}
use Rattle.tg_law_claims.proofs.Causes.Stalling.{Plain, Brief, PlaysKept, Unknowns, IsBlocked, Said, walked_so}
use Rattle.tg_law_claims.specs.Answers.Confirmed.{EndsWalks}
use Rattle.tg_law_claims.specs.Answers.Undecided.{past_entries, past_begins, rescue_begins, IsPlayed, AllTold, IsOutOf, PastsUndecided, RescuesUndecided}
use Rattle.tg_law_claims.proofs.Answers.Played.{is_played, begun_told}

module _ (m : Meaning) (h : Header) (ms : Moves m) (e : EventOf m) (r : Reaches m h (ms ++ Takes e ∷ []) (after m h (ms ++ Takes e ∷ []))) (trims : TrimsWereSpare m h (ms ++ Takes e ∷ [])) where
  module _ (t : Told m) (k : AtWalksEnd m h ms e r trims t) where
    -- the first of these records that reads what the view that begins so doesn't tell, and of which object first; below a position it
    -- isn't passed over there
    record Reads (es : Entries) (v : View m) (at p : ℕ) (o : Oid) : Type 0 where
      read : HasReadOf m (after m h (ms ++ Takes e ∷ [])) p o
      among : Contains es (p, read.entry)
      unknown : unknown_by m p (base_of m v o) read.read ≡ true
      least : unknown_in m v (reads_of read.entry) p ≡ Some o
      first : AllTold m es v p
      played : p < at → IsPlayed m v p read.entry

    -- a play keeps the bases with which it began
    reads : (ps : List ℕ) (u v : View m) (at p : ℕ) (o : Oid) → u.bases ≡ v.bases → (n : Unknowns m (entries_at m k.end.client.cells ps) u p o) → (p < at → passed_over m u p n.entry ≡ false) → AllTold m (entries_at m k.end.client.cells ps) v p → Reads (entries_at m k.end.client.cells ps) v at p o
    reads ps u v at p o bases n over first = record {
      read = record { entry = n.entry; here = causing.entry_there m h ms e r trims t k ps p n.entry n.here; commit = n.commit; read = n.read; reads = contained_has (reads_of n.entry) n.read n.reads; of = n.of };
      among = contained_has (entries_at m k.end.client.cells ps) (p, n.entry) n.here;
      unknown = subst (λ (b : Option (Base m)). unknown_by m p b n.read ≡ true) (ap (λ (bs : List (Base m)). base_among m bs o) bases) n.unknown;
      least = unknown_same m v u (reads_of n.entry) p (sym bases) ∙ n.first;
      first = first;
      played = λ below. is_played m u v p n.entry bases (over below);
    }

    record PastReads (at p : ℕ) (o : Oid) : Type 0 where
      below : p < at
      is : Reads (past_entries m k.end) (past_begins m k.end at) at p o

    record RescueReads (at p : ℕ) (o : Oid) : Type 0 where
      entry : Entry
      there : commit_at (entries_had m k.end) at ≡ Some entry
      upto : p ≤ at
      walks : Contains k.end.work.oids o
      is : Reads (entries_had m k.end) (rescue_begins m k.end) at p o

    past_reads : (at : ℕ) (x : Oid) (u : Play m) (p : ℕ) (o : Oid) → past_at m (member_entries m k.end.client k.end.work k.end.work.oids) k.end.work.trims k.end.work.oids k.end.client.objects x at ≡ PastView u → u.came ≡ Blocked p o → PastReads at p o
    past_reads at x u p o view came = record {
      below = b.below;
      is = reads _ (play m (past_begins m k.end at) (member_entries m k.end.client k.end.work k.end.work.oids) at).view (past_begins m k.end at) at p o
          (plays_further m (member_entries m k.end.client k.end.work k.end.work.oids) (past_begins m k.end at) at).bases b.unknowns (λ below. b.played)
          (begun_told m (past_entries m k.end) (map (past_base m (past_entries m k.end) k.end.work.trims k.end.client.objects at) k.end.work.oids) at p
          (own_rising m (log m (after m h (ms ++ Takes e ∷ []))) (logs_by_position m (after m h (ms ++ Takes e ∷ []))) k.end.client k.end.work (causing.found m h ms e r trims t k) k.end.work.oids [] (λ y i. i))
          (let l = b.below in omega (arith, l)) (let n = blocked_stands m (past_entries m k.end) (past_begins m k.end at) at p o blocks in omega (arith, n)));
    }
      where
        blocks : (play m (past_begins m k.end at) (past_entries m k.end) at).came ≡ Blocked p o
        blocks = ap (λ (y : Play m). y.came) (sym (causing.past_view m h ms e r trims t k (past_entries m k.end) k.end.work.trims k.end.work.oids k.end.client.objects x at u view)) ∙ came

        b : IsBlocked m (member_entries m k.end.client k.end.work k.end.work.oids) (play m (past_begins m k.end at) (member_entries m k.end.client k.end.work k.end.work.oids) at).view at p o
        b = causing.blocked m h ms e r trims t k at x u p o view came

    rescue_reads : (at p : ℕ) (o : Oid) → rescue_turn m (all_entries m k.end.client k.end.work k.end.work.oids) k.end.work.trims k.end.work.oids k.end.client.objects at ≡ StuckAt p o → RescueReads at p o
    rescue_reads at p o turn = record {
      entry = s.entry;
      there = s.there;
      upto = s.blocks.upto;
      walks = contained k.end.work.oids o (has_oid_has o k.end.work.oids s.among);
      is = reads _ (playing m (entries_had m k.end) k.end.work.trims k.end.client.objects k.end.work.oids at).view (rescue_begins m k.end) at p o
          (plays_further m (entries_had m k.end) (rescue_begins m k.end) (at + 1)).bases s.blocks.unknowns s.blocks.played
          (begun_told m (entries_had m k.end) (view_bases m (entries_had m k.end) k.end.work.trims k.end.client.objects k.end.work.oids) (at + 1) p
          (own_rising m (log m (after m h (ms ++ Takes e ∷ []))) (logs_by_position m (after m h (ms ++ Takes e ∷ []))) k.end.client k.end.work (causing.found m h ms e r trims t k) k.end.work.oids k.end.client.own (λ y i. i))
          (let l = s.blocks.upto in omega (arith, l)) s.blocks.stands);
    }
      where
        s : IsStuck m (entries_had m k.end) k.end.work.trims k.end.client.objects k.end.work.oids at p o
        s = rescue_stuck m (entries_had m k.end) k.end.work.trims k.end.client.objects k.end.work.oids at p o turn

    -- by the command
    abbrev Fits : CommandOf m → ℕ → Oid → Type 0
    Fits (cmd.AskAt at x q) p o = PastReads at p o
    Fits (cmd.Rescue at) p o = RescueReads at p o
    Fits y p o = Unit {0}

    abbrev Ok : Client m → WhatOf m → Type 0
    Ok d (told.Refused (cause.Undecided p o)) = Fits k.end.work.command p o
    Ok d what = Unit {0}

    ok_plain : (d : Client m) (what : WhatOf m) → Plain m what → Ok d what
    ok_plain d (told.Refused (cause.Undecided p o)) plain = absurd plain
    ok_plain d what plain = tt

    kept_fits : (y : CommandOf m) (p : ℕ) (o : Oid) → PlaysKept m y → Fits y p o
    kept_fits (cmd.AskAt at x q) p o kept = absurd kept
    kept_fits (cmd.Rescue at) p o kept = absurd kept
    kept_fits y p o kept = tt

    said : Said m Ok ok_plain (walked m k.end.client k.end.work)
    said = walked_so m Ok ok_plain k.end.client k.end.work (record {
      undecided = λ d p o kept s n none. kept_fits k.end.work.command p o kept;
      unsure = λ d q o ending s n le f. tt;
      none = λ d a ending came none. tt;
      same = λ d a y ending came at says known eq. tt;
      past = λ d at x q u p o is hosted view came. subst (λ (y : CommandOf m). Fits y p o) (sym is) (past_reads at x u p o view came);
      no_save = λ d o n is s none. tt;
      is_open = λ d o n p is s some. tt;
      no_state = λ d o q is s none. tt;
      no_past = λ d p o q u is view none. tt;
      rescue = λ d at p o is turn. subst (λ (y : CommandOf m). Fits y p o) (sym is) (rescue_reads at p o turn);
    })

    fits : (y : CommandOf m) (p : ℕ) (o : Oid) → command_in m (client m (after m h ms) t.mark.client).work ≡ Some y → t.mark.what ≡ told.Refused (cause.Undecided p o) → Fits y p o
    fits y p o of what = subst (λ (z : CommandOf m). Fits z p o) (same k.end.work.command y (sym (command_waits m (after m h ms) t.mark.client e k.end k.ended) ∙ of))
        (ends_tell m Ok ok_plain h ms e r trims t k said (told.Refused (cause.Undecided p o)) what)
      where
        same : (a b : CommandOf m) → Some a ≡ Some b → a ≡ b
        same a b z = cc

    -- nor has it a decision
    lacks : (p : ℕ) (o : Oid) → HasCause m (after m h ms) e t (cause.Undecided p o) → decision_in (entries_had m k.end) p ≡ None
    lacks p o g = by g.because
      where
        one : (y z : Walked m) → Some y ≡ Some z → y ≡ z
        one y z is = cc

        of : LacksDecision m (after m h ms) e t p → decision_in (entries_had m k.end) p ≡ None
        of n = subst (λ (y : Walked m). decision_in (entries_had m y) p ≡ None) (one n.had k.end (sym n.walked ∙ k.ended)) n.none

        by : CauseAtOnce m (after m h ms) t.mark.client g.command (cause.Undecided p o) ⊎ CauseLater m (after m h ms) e t g.command (cause.Undecided p o) → decision_in (entries_had m k.end) p ≡ None
        by (inl x) = absurd x
        by (inr x) = of x.1

    abbrev ends : EndsWalks m (after m h ms) e t
    ends = record {
      had = k.end;
      walked = k.ended;
      links = k.end.work.lasts;
      synced = subst (λ (u : World m). SentNow m u t (msg.Tail k.end.work.tail k.end.work.lasts)) (then_takes m h ms e) (record { rid = k.heard.tail.rid; now = k.heard.tail.now; sent = k.heard.tail.sent });
    }

    out_of : (es : Entries) (v : View m) (at p : ℕ) (o : Oid) → Reads es v at p o → decision_in (entries_had m k.end) p ≡ None → (is : IsOutOf m (happens m (after m h ms) e) k.end es v p o) × (p < at → IsPlayed m v p is.reads.entry)
    out_of es v at p o n none =
        subst (λ (u : World m). (is : IsOutOf m u k.end es v p o) × (p < at → IsPlayed m v p is.reads.entry)) (then_takes m h ms e) (record { reads = n.read; among = n.among; unknown = n.unknown; least = n.least; first = n.first; lacks = none }, n.played)

  module _ (causes : UndecidedTrue m (after m h ms) e) where
    there : (t : Told m) (p : ℕ) (o : Oid) → Replies m (after m h ms) e t → t.mark.what ≡ told.Refused (cause.Undecided p o) → AtWalksEnd m h ms e r trims t
    there t p o replies what = undecided_ends m h ms e r trims replies.replies t replies.are (has_contained replies.replies t replies.here) (λ brief. subst (Brief m) what brief)

    pub pasts_undecided_there : PastsUndecided m (after m h ms) e
    pasts_undecided_there t at x q p o replies of what =
        let k = there t p o replies what in
        let n = fits t k (cmd.AskAt at x q) p o of what in
        let g = out_of t k (past_entries m k.end) (past_begins m k.end at) at p o n.is (lacks t k p o (causes t p o replies what)) in
        record { ends = ends t k; below = n.below; is = g.0; played = g.1 n.below }

    pub rescues_undecided_there : RescuesUndecided m (after m h ms) e
    rescues_undecided_there t at p o replies of what =
        let k = there t p o replies what in
        let n = fits t k (cmd.Rescue at) p o of what in
        let g = out_of t k (entries_had m k.end) (rescue_begins m k.end) at p o n.is (lacks t k p o (causes t p o replies what)) in
        record { ends = ends t k; entry = n.entry; there = n.there; upto = n.upto; walks = n.walks; is = g.0; played = g.1 }
