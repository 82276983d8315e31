-- Why a client may not forget: where its walks are over, no checkpoint of the object reaches the mark, or a record below it is open.
use Rattle.std.proofs.Common.{◌≡◌, ℕ, ◌+◌, ◌<◌, ◌≤◌, List, [], ◌∷◌, ◌++◌, Bool, true, false, refl, sym, ap, ◌∙◌, subst, inl, inr, arith, Option, Some, None, is_some}
use Rattle.std.specs.Prelude.{Contains, nat_lt, nat_le, not, ◌&&◌, if◌then◌else◌}
use Rattle.std.proofs.lemmas.Bool.Decides.{nat_tests}
use Rattle.tg_base.specs.Clusters.{Header}
use Rattle.tg_base.specs.declared.cell.Cell.{Cell}
use Rattle.tg_base.specs.declared.cell.Cell.TheVariants.{Junk, Data}
use Rattle.tg_base.specs.declared.ids.Oid.{Oid}
use Rattle.tg_entry.specs.declared.entry.Entry.{Entry}
use Rattle.tg_entry.specs.Needs.{needs_decision}
use Rattle.tg_kind.specs.Meaning.{Meaning}
use Rattle.tg_model.specs.declared.command.Command.TheVariants as cmd
use Rattle.tg_model.specs.Kinds.{CommandOf, EventOf}
use Rattle.tg_protocol.specs.Alike.{HasEntry}
use Rattle.tg_protocol.specs.Causes.{HasNoBase, IsOpen}
use Rattle.tg_protocol.specs.Checkpoints.{trim_of, base_at, open_decision, open_fault, forget_fault, ForgetFault, NoCheckpoint, OpenDecision, may_forget, load_from}
use Rattle.tg_protocol.specs.Clients.{Work, Client, all_entries}
use Rattle.tg_protocol.specs.Entries.{lists}
use Rattle.tg_protocol.specs.Logs.{Log, entries_of}
use Rattle.tg_protocol.specs.Pages.{cell_entry}
use Rattle.tg_protocol.specs.Runs.{Moves, Takes, Reaches}
use Rattle.tg_protocol.specs.Views.{Entries, Base, decision_in}
use Rattle.tg_protocol.specs.Words.{cell_at}
use Rattle.tg_protocol.specs.Worlds.{World, Told, log}
use Rattle.tg_law_layouts.specs.Moves.After.{after}
use Rattle.tg_law_replies.specs.History.Worlds.{entries_in}
use Rattle.tg_law_replies.specs.Plays.Sound.{rise_from}
use Rattle.tg_law_walks.specs.Lists.Spared.{TrimsWereSpare}
use Rattle.tg_law_walks.specs.Walks.Rounds.{round, IsRound}
use Rattle.tg_law_walks.specs.Walks.Streams.{IsByPosition}
use Rattle.tg_law_walks.proofs.Drafts.Written.{then_takes}
use Rattle.tg_law_walks.proofs.Walks.Cells.{entry_there, rises_next, has_from}
use Rattle.tg_law_walks.proofs.Walks.Members.{Has, has_contained, of_lt}
use Rattle.tg_law_walks.proofs.Walks.Plays.{own_rising, untrimmed, trimmed, none_saved}
use Rattle.tg_law_walks.proofs.Walks.Saves.{gives_load, load_gives}
use Rattle.tg_law_walks.proofs.Walks.Syncs.{logs_by_position}
use Rattle.tg_law_syncs.specs.Finds.Left.{SavesPrecede}
use Rattle.tg_law_headline.proofs.Decisions.Saved.{saves_listed}
use Rattle.tg_law_headline.specs.Decisions.Forgetting.{WalksWhole}
use Rattle.tg_law_headline.proofs.Decisions.Wholes.{forgets_walk_whole}
use Rattle.tg_law_claims.proofs.Causes.EndsGive.{ends_give}
use Rattle.tg_law_claims.proofs.Causes.Stalling.{widens, hosted_entries}
use Rattle.tg_law_claims.proofs.Causes.Stalled.{AtWalksEnd}
use Rattle.tg_law_claims.proofs.Causes.Causing as causing

-- The test.

one_place : (a b : ℕ) → Some a ≡ Some b → a ≡ b
one_place a b e = cc

no_place : {X : Type 0} (p : ℕ) → None ≡ Some p → X
no_place p e = absurd cc

differ : {X : Type 0} → true ≡ false → X
differ e = absurd cc

-- the least record that is open
pub record OpenAt (es own : Entries) (o : Oid) (mark p : ℕ) : Type 0 where
  pub entry : Entry
  pub here : Has own (p, entry)
  pub below : p < mark
  pub stands : lists entry o ≡ true
  pub needs : needs_decision entry ≡ true
  pub none : decision_in es p ≡ None
  pub least : (q : ℕ) (d : Entry) → Has own (q, d) → q < p → lists d o ≡ true → needs_decision d ≡ true → is_some (decision_in es q) ≡ true

open_at : (es : Entries) (r : ℕ) (own : Entries) (o : Oid) (mark p : ℕ) → rise_from r own ≡ true → open_decision es own o mark ≡ Some p → OpenAt es own o mark p
unfolding open_decision
open_at es r [] o mark p rises e = no_place p e
open_at es r (x ∷ xs) o mark p rises e =
    by (nat_lt x.0 mark && lists x.1 o && needs_decision x.1 && not (is_some (decision_in es x.0))) refl e (λ f. open_at es (x.0 + 1) xs o mark p (rises_next r x xs rises).1 f)
  where
    parts : (a b c d : Bool) → (a && b && c && not d) ≡ true → (a ≡ true) × (b ≡ true) × (c ≡ true) × (d ≡ false)
    parts true true true false k = (refl, refl, refl, refl)
    parts true true true true k = absurd cc
    parts true true false d k = absurd cc
    parts true false c d k = absurd cc
    parts false b c d k = absurd cc

    nothing : (d : Option Bool) → is_some d ≡ false → d ≡ None
    nothing None k = refl
    nothing (Some b) k = differ k

    less : (a b : ℕ) → nat_lt a b ≡ true → a < b
    less a b k = grind arith

    decided : (a b c d : Bool) → a ≡ true → b ≡ true → c ≡ true → (a && b && c && not d) ≡ false → d ≡ true
    decided a b c d e f g k = grind arith

    none_below : p ≡ x.0 → (q : ℕ) (d : Entry) → Has (x ∷ xs) (q, d) → q < p → lists d o ≡ true → needs_decision d ≡ true → is_some (decision_in es q) ≡ true
    none_below at q d (inl same) l s n = let k = ap (λ (y : ℕ × Entry). y.0) same in absurd (omega (arith, at, k, l))
    none_below at q d (inr i) l s n = let k = has_from (x.0 + 1) xs (q, d) (rises_next r x xs rises).1 i in absurd (omega (arith, at, k, l))

    by : (b : Bool) → (nat_lt x.0 mark && lists x.1 o && needs_decision x.1 && not (is_some (decision_in es x.0))) ≡ b → (if b then Some x.0 else open_decision es xs o mark) ≡ Some p → (open_decision es xs o mark ≡ Some p → OpenAt es xs o mark p) → OpenAt es (x ∷ xs) o mark p
    by true is z rest =
        let at : x.0 ≡ p = one_place x.0 p z in
        let f = parts (nat_lt x.0 mark) (lists x.1 o) (needs_decision x.1) (is_some (decision_in es x.0)) is in
        record {
          entry = x.1;
          here = inl (ap (λ (n : ℕ). (n, x.1)) (sym at));
          below = subst (λ (n : ℕ). n < mark) at (less x.0 mark f.0);
          stands = f.1;
          needs = f.2;
          none = subst (λ (n : ℕ). decision_in es n ≡ None) at (nothing (decision_in es x.0) f.3);
          least = none_below (sym at);
        }
    by false is z rest = let g = rest z in record { entry = g.entry; here = inr g.here; below = g.below; stands = g.stands; needs = g.needs; none = g.none; least = λ q d i l s n. later g q d i l s n }
      where
        later : OpenAt es xs o mark p → (q : ℕ) (d : Entry) → Has (x ∷ xs) (q, d) → q < p → lists d o ≡ true → needs_decision d ≡ true → is_some (decision_in es q) ≡ true
        later g q d (inr i) l s n = g.least q d i l s n
        later g q d (inl same) l s n =
            let at : q ≡ x.0 = ap (λ (y : ℕ × Entry). y.0) same in
            let of : d ≡ x.1 = ap (λ (y : ℕ × Entry). y.1) same in
            let b = g.below in
            subst (λ (i : ℕ). is_some (decision_in es i) ≡ true) (sym at)
            (decided (nat_lt x.0 mark) (lists x.1 o) (needs_decision x.1) (is_some (decision_in es x.0)) (of_lt x.0 mark (omega (arith, at, l, b))) (ap (λ (y : Entry). lists y o) (sym of) ∙ s) (ap (λ (y : Entry). needs_decision y) (sym of) ∙ n) is)

module _ (m : Meaning) where
  some_load : (es : Entries) (o : Oid) (n p : ℕ) → may_forget m es o n ≡ Some (OpenDecision p) → open_decision es es o n ≡ Some p
  unfolding may_forget
  some_load es o n p is = by (load_from m es o n) is
    where
      same : (a b : ℕ) → ◌≡◌ {A = Option (ForgetFault m)} (Some (OpenDecision a)) (Some (OpenDecision b)) → Some a ≡ Some b
      same a b z = cc

      opens : (x : Option ℕ) → open_fault m x ≡ Some (OpenDecision p) → x ≡ Some p
      opens None z = absurd cc
      opens (Some q) z = same q p z

      by : (b : Option (Base m)) → forget_fault m es o n b ≡ Some (OpenDecision p) → open_decision es es o n ≡ Some p
      by None z = absurd cc
      by (Some b) z = opens (open_decision es es o n) z

  no_load : (es : Entries) (o : Oid) (n : ℕ) → may_forget m es o n ≡ Some NoCheckpoint → load_from m es o n ≡ None
  unfolding may_forget
  no_load es o n is = by (load_from m es o n) is
    where
      opens : (x : Option ℕ) → open_fault m x ≡ Some NoCheckpoint → ⊥
      opens None z = cc
      opens (Some q) z = cc

      by : (b : Option (Base m)) → forget_fault m es o n b ≡ Some NoCheckpoint → b ≡ None
      by None z = refl
      by (Some b) z = absurd (opens (open_decision es es o n) z)

  none_some : (x : Option (Base m)) → x ≡ None → is_some x ≡ true → ⊥
  none_some None g k = cc
  none_some (Some b) g k = cc

  -- an entry of the log that saves an object stands in its stream
  pub listed_in : (x : Option Cell) (d : Entry) (o : Oid) (b : Base m) → cell_entry x ≡ Some d → base_at m o d ≡ Some b → lists d o ≡ true
  listed_in None d o b read is = absurd cc
  listed_in (Some Junk) d o b read is = absurd cc
  listed_in (Some (Data page)) d o b read is = saves_listed m page d o b read is

  -- A client whose walks of a command that forgets are over.
  module _ (l : Log) (byp : IsByPosition l) (c : Client m) (w : Work m) (h : IsRound m l (round m c w c.cells) []) (whole : w.lo ≡ 0) (precede : SavesPrecede m (entries_of l)) (o : Oid) (hosted : Contains c.hosted o) (n : ℕ) where
    abbrev own : Entries
    own = hosted_entries m c w

    -- no checkpoint of the object that reaches the mark stands below the tail
    pub none_reaches : load_from m own o n ≡ None → (p : ℕ) (d : Entry) (b : Base m) → Contains (entries_of l) (p, d) → p < w.tail → base_at m o d ≡ Some b → n ≤ b.upto → ⊥
    none_reaches none p d b there less is reaches = by (trim_of w.trims o) refl
      where
        i : Has (entries_of l) (p, d)
        i = has_contained (entries_of l) (p, d) there

        stands : lists d o ≡ true
        stands = listed_in (cell_at l p) d o b (entry_there 0 l p d byp i) is

        low : b.upto ≤ p
        low = precede p d o b there is

        found : Has own (p, d) → ⊥
        found k = none_some (load_from m own o n) none (gives_load m own o n p d k (record { base = b; is = is; reaches = reaches }))

        -- what the walk found at its trim reaches the mark, too
        kept : (below : ℕ) → p < below → (x : Option (Base m)) → load_from m own o below ≡ x → trim_of w.trims o ≡ Some below → ⊥
        kept below under None at met = let le = none_saved m l byp c w h c.hosted c.own h.hosts o below hosted met at p d i stands in omega (arith, under, le)
        kept below under (Some a) at met =
            let g = load_gives m own o below a at in
            let far = g.1 in
            none_some (load_from m own o n) none (gives_load m own o n g.0.at g.0.entry g.0.here (record { base = a; is = g.0.is; reaches = omega (arith, reaches, low, under, far) }))

        past : (below : ℕ) → trim_of w.trims o ≡ Some below → (t : Bool) → nat_le below p ≡ t → ⊥
        past below met true t = found (trimmed m l byp c w h c.hosted c.own h.hosts o below hosted met p d (grind (arith, nat_tests, t)) less i stands)
        past below met false t = kept below (grind (arith, nat_tests, t)) (load_from m own o below) refl met

        by : (t : Option ℕ) → trim_of w.trims o ≡ t → ⊥
        by None met = found (untrimmed m l byp c w h c.hosted c.own h.hosts o hosted met p d (omega (arith, whole)) less i stands)
        by (Some below) met = past below met (nat_le below p) refl

-- A step's client at the end of its walks, over the log to which the step comes.
module _ (m : Meaning) (h : Header) (ms : Moves m) (e : EventOf m) (r : Reaches m h (ms ++ Takes e ∷ []) (after m h (ms ++ Takes e ∷ []))) (trims : TrimsWereSpare m h (ms ++ Takes e ∷ [])) (before : Reaches m h ms (after m h ms))
    (precede : SavesPrecede m (entries_in m (after m h (ms ++ Takes e ∷ [])))) (t : Told m) (k : AtWalksEnd m h ms e r trims t) where
  whole : (o : Oid) (n : ℕ) → k.end.work.command ≡ cmd.Forget o n → k.end.work.lo ≡ 0
  whole = ends_give m h.objects (entries_in m (after m h ms)) (WalksWhole m) (after m h ms) t.mark.client e k.end (forgets_walk_whole m h ms (after m h ms) e before) k.ended

  pub none_below : (o : Oid) (n : ℕ) → k.end.work.command ≡ cmd.Forget o n → Contains k.end.client.hosted o → may_forget m (hosted_entries m k.end.client k.end.work) o n ≡ Some NoCheckpoint
      → (p : ℕ) (d : Entry) (b : Base m) → HasEntry m (after m h (ms ++ Takes e ∷ [])) p d → p < k.end.work.tail → base_at m o d ≡ Some b → n ≤ b.upto → ⊥
  none_below o n is hosted none p d b there less gives reaches =
      none_reaches m (log m (after m h (ms ++ Takes e ∷ []))) (logs_by_position m (after m h (ms ++ Takes e ∷ []))) k.end.client k.end.work (causing.found m h ms e r trims t k) (whole o n is) precede o hosted n
      (no_load m (hosted_entries m k.end.client k.end.work) o n none) p d b there less gives reaches

  pub no_base : (o : Oid) (n : ℕ) → k.end.work.command ≡ cmd.Forget o n → Contains k.end.client.hosted o → may_forget m (hosted_entries m k.end.client k.end.work) o n ≡ Some NoCheckpoint → HasNoBase m (after m h (ms ++ Takes e ∷ [])) t o n
  no_base o n is hosted none = record {
    tail = k.end.work.tail;
    links = k.end.work.lasts;
    synced = record { rid = k.heard.tail.rid; now = k.heard.tail.now; sent = k.heard.tail.sent };
    none = none_below o n is hosted none;
  }

  pub is_open : (o : Oid) (n p : ℕ) → k.end.work.command ≡ cmd.Forget o n → may_forget m (hosted_entries m k.end.client k.end.work) o n ≡ Some (OpenDecision p) → IsOpen m (after m h ms) e t o n p
  is_open o n p is some = record {
    entry = g.entry;
    here = subst (λ (u : World m). HasEntry m u p g.entry) (then_takes m h ms e) (causing.entry_there m h ms e r trims t k _ p g.entry g.here);
    in_stream = g.stands;
    needs = g.needs;
    below = g.below;
    lacks = record { had = k.end; walked = k.ended; none = g.none };
    least = λ q d i less s needs. g.least q d (has_contained (all_entries m k.end.client k.end.work k.end.work.oids) (q, d) i) less s needs;
  }
    where
      had : may_forget m (all_entries m k.end.client k.end.work k.end.work.oids) o n ≡ Some (OpenDecision p)
      had = subst (λ (os : List Oid). may_forget m (all_entries m k.end.client k.end.work os) o n ≡ Some (OpenDecision p)) (sym (k.heard.streams (ap (λ (y : CommandOf m). widens m y) is))) some

      g : OpenAt (all_entries m k.end.client k.end.work k.end.work.oids) (all_entries m k.end.client k.end.work k.end.work.oids) o n p
      g = open_at (all_entries m k.end.client k.end.work k.end.work.oids) 0 (all_entries m k.end.client k.end.work k.end.work.oids) o n p
          (own_rising m (log m (after m h (ms ++ Takes e ∷ []))) (logs_by_position m (after m h (ms ++ Takes e ∷ []))) k.end.client k.end.work (causing.found m h ms e r trims t k) k.end.work.oids k.end.client.own (λ x i. i))
          (some_load m (all_entries m k.end.client k.end.work k.end.work.oids) o n p had)
