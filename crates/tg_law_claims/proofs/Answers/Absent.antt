-- Where a client's walks are over, and it finds no commit record at a position, there is none that is for it.
use Rattle.std.proofs.Common.{◌≡◌, ℕ, ◌+◌, ◌<◌, ◌≤◌, List, [], ◌∷◌, Bool, true, false, cond, refl, sym, ap, ◌∙◌, subst, inl, inr, arith, filter, Option, Some, None, is_some}
use Rattle.std.specs.Prelude.{not, length, nat_lt, nat_le, ◌==◌, ◌&&◌, ◌||◌, Contains, if◌then◌else◌}
use Rattle.tg_base.specs.Orders.{oid_eq}
use Rattle.tg_base.specs.declared.cell.Cell.{Cell}
use Rattle.tg_base.specs.declared.ids.Oid.{Oid}
use Rattle.tg_entry.specs.declared.entry.Entry.{Entry}
use Rattle.tg_kind.specs.Meaning.{Meaning}
use Rattle.tg_model.specs.Kinds.{CommandOf}
use Rattle.tg_model.specs.declared.command.Command.TheVariants as cmd
use Rattle.tg_protocol.specs.Words.{cell_at, has_oid, with_nums}
use Rattle.tg_protocol.specs.Entries.{is_commit, lists}
use Rattle.tg_protocol.specs.Logs.{Log, entries_of}
use Rattle.tg_protocol.specs.Checkpoints.{TrimPoints, trim_of, view_bases}
use Rattle.tg_protocol.specs.Views.{Entries, View, Play, Verdict, Commits, Aborts, Unknown, fate_of, view_outcome, view_start, play}
use Rattle.tg_protocol.specs.Past.{commit_at, RescueTurn, Wider, Wide, Absent, Known, block_in, known_by, at_record, grows, rescue_by, rescue_turn}
use Rattle.tg_protocol.specs.Clients.{Work, Client, upto_in, member_positions, all_entries}
use Rattle.tg_protocol.specs.Answers.{trim_above}
use Rattle.tg_protocol.specs.ClientSteps.{fate_missing, zero_if, lo_for}
use Rattle.tg_protocol.specs.Causes.{IsFor}
use Rattle.tg_protocol.specs.Walked.{from_trim}
use Rattle.tg_law_replies.proofs.Views.Settled.{IsFated}
use Rattle.tg_law_walks.specs.Walks.Streams.{IsByPosition}
use Rattle.tg_law_walks.specs.Walks.Rounds.{round, IsRound}
use Rattle.tg_law_walks.proofs.Walks.Members.{Has, has_contained, contained_has, of_lt, not_lt, number_same, same_oid}
use Rattle.tg_law_walks.proofs.Walks.Cells.{entry_there}
use Rattle.tg_law_walks.proofs.Walks.Positions.{has_filter, nums_left}
use Rattle.tg_law_walks.proofs.Walks.Plays.{ps, untrimmed, trimmed}
use Rattle.tg_law_walks.proofs.Walks.Rounds.{entry_read}
use Rattle.tg_law_walks.proofs.Walks.Saves.{have_entries}

-- the cells of these positions are known
abbrev pub Owned : List ℕ → List (ℕ × Cell) → Type 0
Owned own cells = (p : ℕ) → Contains own p → is_some (cell_at cells p) ≡ true

never : {X : Type 0} → (x : X) → None ≡ Some x → ⊥
never x e = cc

pub commit_found : (es : Entries) (p : ℕ) (e : Entry) → Has es (p, e) → is_commit e ≡ true → commit_at es p ≡ None → ⊥
unfolding commit_at
commit_found [] p e i commit none = i
commit_found (x ∷ xs) p e i commit none = by ((x.0 == p) && is_commit x.1) refl none i (λ j f. commit_found xs p e j commit f)
  where
    here : (p, e) ≡ x → ((x.0 == p) && is_commit x.1) ≡ true
    here is = subst (λ (y : ℕ × Entry). ((y.0 == p) && is_commit y.1) ≡ true) is (both (p == p) (is_commit e) (number_same p p refl) commit)
      where
        both : (a b : Bool) → a ≡ true → b ≡ true → (a && b) ≡ true
        both a b e f = grind arith

    differ : true ≡ false → ⊥
    differ z = cc

    by : (b : Bool) → ((x.0 == p) && is_commit x.1) ≡ b → cond b (Some x.1) (commit_at xs p) ≡ None → Has (x ∷ xs) (p, e) → (Has xs (p, e) → commit_at xs p ≡ None → ⊥) → ⊥
    by true t f j rest = never x.1 (sym f)
    by false t f (inl is) rest = differ (sym (here is) ∙ t)
    by false t f (inr j) rest = rest j f

-- a cell of some of the known ones is known
fewer : (f : ℕ × Cell → Bool) (cells : List (ℕ × Cell)) (p : ℕ) → is_some (cell_at (filter f cells) p) ≡ true → is_some (cell_at cells p) ≡ true
fewer f [] p h = h
fewer f (x ∷ xs) p h = by (f x) h (fewer f xs p)
  where
    more : is_some (cell_at xs p) ≡ true → is_some (cell_at (x ∷ xs) p) ≡ true
    more k = grind arith

    same : (ys : List (ℕ × Cell)) → (is_some (cell_at ys p) ≡ true → is_some (cell_at xs p) ≡ true) → is_some (cell_at (x ∷ ys) p) ≡ true → is_some (cell_at (x ∷ xs) p) ≡ true
    same ys rest k = grind arith

    by : (b : Bool) → is_some (cell_at (cond b (x ∷ filter f xs) (filter f xs)) p) ≡ true → (is_some (cell_at (filter f xs) p) ≡ true → is_some (cell_at xs p) ≡ true) → is_some (cell_at (x ∷ xs) p) ≡ true
    by true k rest = same (filter f xs) rest k
    by false k rest = more (rest k)

pub fewer_owned : (f : ℕ × Cell → Bool) (own : List ℕ) (cells : List (ℕ × Cell)) → Owned own (filter f cells) → Owned own cells
fewer_owned f own cells k p i = fewer f cells p (k p i)

module _ (m : Meaning) where
  -- From where a command walks.

  -- a kept view has a fate there
  pub record HasFate (v : Option (View m)) (p : ℕ) : Type 0 where
    pub view : View m
    pub is : v ≡ Some view
    pub fated : IsFated m view p

  -- `fate` walks from where the kept view stands only where the view has a fate, and `decide` from 0
  abbrev pub LowFor : Option (View m) → ℕ → CommandOf m → Type 0
  LowFor v lo (cmd.Fate p) = p < lo → HasFate v p
  LowFor v lo (cmd.Decide p) = lo ≡ 0
  LowFor v lo x = Unit {0}

  pub zero_low : (v : Option (View m)) (x : CommandOf m) → LowFor v 0 x
  zero_low v (cmd.Fate p) = λ less. absurd (omega (arith, less))
  zero_low v (cmd.Decide p) = refl
  zero_low v x = tt

  missing_low : (v : Option (View m)) (p : ℕ) → p < zero_if m (fate_missing m v p) (upto_in m v) → HasFate v p
  missing_low None p less = absurd (omega (arith, less))
  missing_low (Some v) p less = by (fate_of m v p) refl
    where
      none : (b : Bool) → p < zero_if m (nat_lt p v.upto && not b) v.upto → b ≡ true
      none true k = refl
      none false k = absurd (test (nat_lt p v.upto) refl k)
        where
          test : (t : Bool) → nat_lt p v.upto ≡ t → p < zero_if m (t && true) v.upto → ⊥
          test true f k = absurd (omega (arith, k))
          test false f k = let le = not_lt p v.upto f in absurd (omega (arith, k, le))

      by : (f : Option Bool) → fate_of m v p ≡ f → HasFate (Some v) p
      by (Some b) is = record { view = v; is = refl; fated = (b, is) }
      by None is = absurd (no (none (is_some (fate_of m v p)) less))
        where
          no : is_some (fate_of m v p) ≡ true → ⊥
          no e = differ (sym e ∙ ap (λ (o : Option Bool). is_some o) is)
            where
              differ : true ≡ false → ⊥
              differ z = cc

  pub lo_low : (c : Client m) (x : CommandOf m) → LowFor c.view (lo_for m c x) x
  lo_low c (cmd.Fate p) = missing_low c.view p
  lo_low c (cmd.Decide p) = refl
  lo_low c x = tt

  -- Trims.

  trim_low : (ts : List (Oid × ℕ)) (o : Oid) (b p : ℕ) → trim_of ts o ≡ Some b → trim_above m ts p ≡ None → b ≤ p
  trim_low [] o b p e n = absurd (never b e)
  trim_low (x ∷ xs) o b p e n = by (nat_lt p x.1) refl n (λ f rest. trim_low xs o b p f rest)
    where
      one : (a : ℕ) → Some a ≡ Some b → a ≡ b
      one a z = cc

      at : (t : Bool) → oid_eq x.0 o ≡ t → (if t then Some x.1 else trim_of xs o) ≡ Some b → x.1 ≤ p → trim_above m xs p ≡ None → (trim_of xs o ≡ Some b → trim_above m xs p ≡ None → b ≤ p) → b ≤ p
      at true t f le none more = let s = one x.1 f in omega (arith, le, s)
      at false t f le none more = more f none

      by : (t : Bool) → nat_lt p x.1 ≡ t → (if t then Some x.1 else trim_above m xs p) ≡ None → (trim_of xs o ≡ Some b → trim_above m xs p ≡ None → b ≤ p) → b ≤ p
      by true t f more = absurd (never x.1 (sym f))
      by false t f more = at (oid_eq x.0 o) refl e (not_lt p x.1 t) f more

  -- Of a client.

  -- no commit record that is for it stands there below a tail
  abbrev pub NoneFor : Entries → ℕ → Client m → ℕ → Type 0
  NoneFor es tail c p = (e : Entry) → Contains es (p, e) → is_commit e ≡ true → p < tail → IsFor m c p e → ⊥

  module _ (l : Log) (byp : IsByPosition l) (c : Client m) (w : Work m) (h : IsRound m l (round m c w c.cells) []) (os : List Oid)
      (sub : (o : Oid) → Contains os o → Contains w.oids o) (hosts : (o : Oid) → Contains c.hosted o → Contains os o) where
    pub own_found : (p : ℕ) (e : Entry) → Owned c.own c.cells → Contains c.own p → Contains (entries_of l) (p, e) → p < w.tail → Has (all_entries m c w os) (p, e)
    own_found p e known i there less =
        have_entries m c.cells (ps m l byp c w h os c.own sub) p e
        (has_filter (λ q. nat_lt q w.tail) (with_nums c.own (member_positions m w os)) p
        (nums_left c.own (member_positions m w os) p (has_contained c.own p i))
        (of_lt p w.tail less))
        (entry_read m l byp c.cells p e h.known (known p i) (entry_there 0 l p e byp (has_contained (entries_of l) (p, e) there)))

    -- a stream is walked down to where its walk met a trim, or else to where the command walks
    pub stream_found : (p : ℕ) (e : Entry) (o : Oid) → from_trim m w.lo (trim_of w.trims o) ≤ p → Contains os o → Contains (entries_of l) (p, e) → lists e o ≡ true → p < w.tail → Has (all_entries m c w os) (p, e)
    stream_found p e o from i there f less = by (trim_of w.trims o) refl from
      where
        by : (t : Option ℕ) → trim_of w.trims o ≡ t → from_trim m w.lo t ≤ p → Has (all_entries m c w os) (p, e)
        by None is low = untrimmed m l byp c w h os c.own sub o i is p e low less (has_contained (entries_of l) (p, e) there) f
        by (Some b) is low = trimmed m l byp c w h os c.own sub o b i is p e low less (has_contained (entries_of l) (p, e) there) f

    walked_low : (p : ℕ) (o : Oid) → w.lo ≤ p → trim_above m w.trims p ≡ None → from_trim m w.lo (trim_of w.trims o) ≤ p
    walked_low p o low none = by (trim_of w.trims o) refl
      where
        by : (t : Option ℕ) → trim_of w.trims o ≡ t → from_trim m w.lo t ≤ p
        by None is = low
        by (Some b) is = trim_low w.trims o b p is none

    -- an object that it hosts
    is_hosted : (xs : List Oid) (o : Oid) → has_oid o xs ≡ true → Has xs o
    is_hosted [] o e = absurd cc
    is_hosted (x ∷ xs) o e = by (oid_eq o x) refl e (λ f. is_hosted xs o f)
      where
        by : (t : Bool) → oid_eq o x ≡ t → (t || has_oid o xs) ≡ true → (has_oid o xs ≡ true → Has xs o) → Has (x ∷ xs) o
        by true t f rest = inl (same_oid o x t)
        by false t f rest = inr (rest f)

    pub none_at : (p : ℕ) → w.lo ≤ p → trim_above m w.trims p ≡ None → commit_at (all_entries m c w os) p ≡ None → Owned c.own c.cells → NoneFor (entries_of l) w.tail c p
    none_at p low none missing known e there commit less (inl i) = commit_found (all_entries m c w os) p e (own_found p e known i there less) commit missing
    none_at p low none missing known e there commit less (inr s) =
        commit_found (all_entries m c w os) p e (stream_found p e s.0 (walked_low p s.0 low none) (hosts s.0 (contained_has c.hosted s.0 (is_hosted c.hosted s.0 s.1))) there s.2 less) commit missing

  -- What a rescue's turn tells of the record.

  abbrev pub RescueFits : Entries → ℕ → RescueTurn m → Type 0
  RescueFits es p Absent = commit_at es p ≡ None
  RescueFits es p (Known so needs) = commit_at es p ≡ None → ⊥
  RescueFits es p t = Unit {0}

  known_fits : (es : Entries) (at : ℕ) (e : Entry) (d : Verdict) → commit_at es at ≡ Some e → RescueFits es at (known_by m es at e d)
  known_fits es at e Commits is = λ none. never e (sym none ∙ is)
  known_fits es at e Aborts is = λ none. never e (sym none ∙ is)
  known_fits es at e (Unknown o) is = tt

  record_fits : (v : View m) (es : Entries) (at : ℕ) (b : Option (ℕ × Oid)) (o : Option Entry) → commit_at es at ≡ o → RescueFits es at (at_record m v es at b o)
  record_fits v es at b None is = is
  record_fits v es at (Some b) (Some e) is = tt
  record_fits v es at None (Some e) is = known_fits es at e (view_outcome m v es at e) is

  block_fits : (y : Play m) (es : Entries) (os : List Oid) (at : ℕ) (b : Option (ℕ × Oid)) → RescueFits es at (rescue_by m y es os at b)
  block_fits y es os at None = record_fits y.view es at None (commit_at es at) refl
  block_fits y es os at (Some b) = by (has_oid b.1 os)
    where
      wide : (t : Bool) → RescueFits es at (if t then Wide else Wider b.1)
      wide true = tt
      wide false = tt

      by : (t : Bool) → RescueFits es at (if t then at_record m y.view es at (Some b) (commit_at es at) else grows m os b.1)
      by true = record_fits y.view es at (Some b) (commit_at es at) refl
      by false = wide (nat_le 128 (length os))

  pub rescue_fits : (es : Entries) (gone : TrimPoints) (os objects : List Oid) (at : ℕ) → RescueFits es at (rescue_turn m es gone os objects at)
  unfolding rescue_turn
  rescue_fits es gone os objects at =
      let y = play m (view_start m (view_bases m es gone objects os)) es (at + 1) in
      block_fits y es os at (block_in m y es at y.came)
