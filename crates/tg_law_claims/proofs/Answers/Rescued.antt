-- What a rescue's walks found where its turn tells that no record is there, or that it would take too many objects.
use Rattle.std.proofs.Common.{◌≡◌, ℕ, ◌+◌, ◌<◌, ◌≤◌, List, [], true, false, sym, ap, ◌∙◌, subst, inl, inr, arith, Option, Some, None}
use Rattle.std.specs.Prelude.{Contains, length}
use Rattle.std.proofs.lemmas.Bool.Decides.{nat_tests}
use Rattle.tg_base.specs.declared.ids.Oid.{Oid}
use Rattle.tg_base.specs.declared.marks.ReadMark.{ReadMark}
use Rattle.tg_entry.specs.declared.entry.Entry.{Entry}
use Rattle.tg_entry.specs.Needs.{reads_of}
use Rattle.tg_kind.specs.Meaning.{Meaning}
use Rattle.tg_protocol.specs.Entries.{is_commit}
use Rattle.tg_protocol.specs.Logs.{Log, entries_of}
use Rattle.tg_protocol.specs.Views.{Base, base_of, unknown_by, unknown_in, decision_in}
use Rattle.tg_protocol.specs.Past.{Absent, Wide, commit_at, rescue_turn}
use Rattle.tg_protocol.specs.Checkpoints.{view_bases}
use Rattle.tg_protocol.specs.Clients.{Work, Client, all_entries}
use Rattle.tg_law_replies.specs.Plays.Sound.{base_among}
use Rattle.tg_law_replies.proofs.Views.Settled.{unknown_same, plays_further}
use Rattle.tg_law_walks.specs.Walks.Rounds.{round, IsRound}
use Rattle.tg_law_walks.specs.Walks.Streams.{IsByPosition}
use Rattle.tg_law_walks.proofs.Walks.Members.{Has, has_contained, contained_has}
use Rattle.tg_law_walks.proofs.Walks.Plays.{own_rising, own_only}
use Rattle.tg_law_claims.proofs.Causes.Causing.{has_has_oid}
use Rattle.tg_law_claims.proofs.Causes.Rescuing.{Blocks, IsWide, playing, rescue_wide}
use Rattle.tg_law_claims.specs.Answers.Rescues.{IsInReach}
use Rattle.tg_law_claims.specs.Answers.Undecided.{rescue_begins, IsPlayed, AllTold}
use Rattle.tg_law_claims.proofs.Answers.Absent.{Owned, commit_found, own_found, stream_found, RescueFits, rescue_fits}
use Rattle.tg_law_claims.proofs.Answers.Played.{is_played, begun_told}

-- a commit record that was found at a position, or one below that isn't passed over, reads an object other than the 128 that are walked,
-- and isn't decided
pub record ReadsOther (m : Meaning) (l : Log) (c : Client m) (w : Work m) (at : ℕ) : Type 0 where
  pub full : 128 ≤ length w.oids
  pub pos : ℕ
  pub other : Oid
  pub upto : pos ≤ at
  pub entry : Entry
  pub here : Contains (entries_of l) (pos, entry)
  pub commit : is_commit entry ≡ true
  pub read : ReadMark
  pub reads : Contains (reads_of entry) read
  pub of : read.oid ≡ other
  pub among : Contains (all_entries m c w w.oids) (pos, entry)
  pub unknown : unknown_by m pos (base_of m (rescue_begins m (record { client = c; work = w })) other) read ≡ true
  pub least : unknown_in m (rescue_begins m (record { client = c; work = w })) (reads_of entry) pos ≡ Some other
  pub first : AllTold m (all_entries m c w w.oids) (rescue_begins m (record { client = c; work = w })) pos
  pub played : pos < at → IsPlayed m (rescue_begins m (record { client = c; work = w })) pos entry
  pub outside : Contains w.oids other → ⊥
  pub lacks : decision_in (all_entries m c w w.oids) pos ≡ None

module _ (m : Meaning) (l : Log) (byp : IsByPosition l) (c : Client m) (w : Work m) (h : IsRound m l (round m c w c.cells) []) where
  pub none_in_reach : (d : Client m) → d.own ≡ c.own → (p : ℕ) → w.lo ≡ 0 → Owned c.own c.cells → rescue_turn m (all_entries m c w w.oids) w.trims w.oids c.objects p ≡ Absent
      → (e : Entry) → Contains (entries_of l) (p, e) → is_commit e ≡ true → p < w.tail → IsInReach m d (record { client = c; work = w }) p e → ⊥
  none_in_reach d same p whole known absent e there commit less reach = commit_found (all_entries m c w w.oids) p e (by reach) commit missing
    where
      missing : commit_at (all_entries m c w w.oids) p ≡ None
      missing = subst (RescueFits m (all_entries m c w w.oids) p) absent (rescue_fits m (all_entries m c w w.oids) w.trims w.oids c.objects p)

      by : IsInReach m d (record { client = c; work = w }) p e → Has (all_entries m c w w.oids) (p, e)
      by (inl i) = own_found m l byp c w h w.oids (λ o i. i) h.hosts p e known (subst (λ (ps : List ℕ). Contains ps p) same i) there less
      by (inr s) = stream_found m l byp c w h w.oids (λ o i. i) h.hosts p e s.0 s.3 s.1 there s.2 less

  pub reads_other : (at : ℕ) → rescue_turn m (all_entries m c w w.oids) w.trims w.oids c.objects at ≡ Wide → ReadsOther m l c w at
  reads_other at is = record {
    full = (let f = g.full in grind (arith, nat_tests, f));
    pos = g.pos;
    other = g.other;
    upto = b.upto;
    entry = b.unknowns.entry;
    here = own_only m l byp c w h w.oids c.own (λ o i. i) g.pos b.unknowns.entry (contained_has (all_entries m c w w.oids) (g.pos, b.unknowns.entry) b.unknowns.here);
    commit = b.unknowns.commit;
    read = b.unknowns.read;
    reads = contained_has (reads_of b.unknowns.entry) b.unknowns.read b.unknowns.reads;
    of = b.unknowns.of;
    among = contained_has (all_entries m c w w.oids) (g.pos, b.unknowns.entry) b.unknowns.here;
    unknown = subst (λ (z : Option (Base m)). unknown_by m g.pos z b.unknowns.read ≡ true) (ap (λ (bs : List (Base m)). base_among m bs g.other) bases) b.unknowns.unknown;
    least = unknown_same m (rescue_begins m (record { client = c; work = w })) (playing m (all_entries m c w w.oids) w.trims c.objects w.oids at).view (reads_of b.unknowns.entry) g.pos (sym bases) ∙ b.unknowns.first;
    first = begun_told m (all_entries m c w w.oids) (view_bases m (all_entries m c w w.oids) w.trims c.objects w.oids) (at + 1) g.pos (own_rising m l byp c w h w.oids c.own (λ o i. i)) (let le = b.upto in omega (arith, le)) b.stands;
    played = λ below. is_played m (playing m (all_entries m c w w.oids) w.trims c.objects w.oids at).view (rescue_begins m (record { client = c; work = w })) g.pos b.unknowns.entry bases (b.played below);
    outside = λ i. differ (sym g.outside ∙ has_has_oid g.other w.oids (has_contained w.oids g.other i));
    lacks = b.undecided;
  }
    where
      g : IsWide m (all_entries m c w w.oids) w.trims c.objects w.oids at
      g = rescue_wide m (all_entries m c w w.oids) w.trims c.objects w.oids at is

      b : Blocks m (all_entries m c w w.oids) w.trims c.objects w.oids at g.pos g.other
      b = g.blocks

      -- a play keeps the bases with which it began
      bases : (playing m (all_entries m c w w.oids) w.trims c.objects w.oids at).view.bases ≡ (rescue_begins m (record { client = c; work = w })).bases
      bases = (plays_further m (all_entries m c w w.oids) (rescue_begins m (record { client = c; work = w })) (at + 1)).bases

      differ : false ≡ true → ⊥
      differ z = cc
