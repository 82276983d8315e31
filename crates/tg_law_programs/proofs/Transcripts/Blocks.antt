-- Where a play is blocked, and what is missing there: a position of the entries, and an object that a record of them read.
use Rattle.std.proofs.Common.{◌≡◌, ℕ, ◌+◌, ◌<◌, ◌≤◌, ◌^◌, List, [], ◌∷◌, Bool, true, false, cond, refl, arith, Some, None, Option}
use Rattle.std.specs.Prelude.{not, ◌&&◌, ◌==◌, nat_lt, nat_le, is_some}
use Rattle.std.proofs.lemmas.Bool.Decides.{nat_tests}
use Rattle.tg_base.specs.declared.cell.Cell.{Cell}
use Rattle.tg_base.specs.declared.ids.Oid.{Oid}
use Rattle.tg_base.specs.declared.marks.ReadMark.{ReadMark}
use Rattle.tg_entry.specs.declared.entry.Entry.{Entry}
use Rattle.tg_entry.specs.Needs.{reads_of, needs_decision}
use Rattle.tg_kind.specs.Meaning.{Meaning}
use Rattle.tg_model.specs.declared.play.PlayEnd.{PlayEnd}
use Rattle.tg_model.specs.declared.play.PlayEnd.TheVariants.{Played, Blocked}
use Rattle.tg_protocol.specs.Entries.{is_commit, lists}
use Rattle.tg_protocol.specs.Pages.{cell_entry}
use Rattle.tg_protocol.specs.Versions.{Changed}
use Rattle.tg_protocol.specs.Words.{cell_at, has_oid}
use Rattle.tg_protocol.specs.Views.{Entries, entry_if, decision_in, Verdict, Commits, Aborts, Unknown, Base, View, Step, On, Stuck, Play, view_start, base_of, unknown_by, unknown_in, by_changes, by_versions, changed_in, said, by_decision, verdict, fate_of, fate_or_verdict, view_outcome, decided_step, record_step, entry_step, step_at, with_open, stands_at, between, play_on, play_from, play}
use Rattle.tg_protocol.specs.Checkpoints.{TrimPoints, trim_of, open_decision, ForgetFault, NoCheckpoint, OpenDecision, open_fault, forget_fault, load_from, may_forget, view_bases}
use Rattle.tg_protocol.specs.Past.{commit_at, PastTurn, PastView, PastGone, last_base, past_play, past_or_gone, past_by, past_at, RescueTurn, Wider, Wide, StuckAt, record_block, entry_block, block_in, known_by, at_record, grows, rescue_by, rescue_turn}
use Rattle.tg_protocol.specs.Clients.{entries_at, below}
use Rattle.tg_law_programs.proofs.Transcripts.Near.{Near}

module _ (Named : Oid → Type 0) where
  -- the objects that a record read
  abbrev pub ReadsOk : List ReadMark → Type 0
  ReadsOk [] = Unit {0}
  ReadsOk (r ∷ rs) = Named r.oid × ReadsOk rs

  -- entries whose records read such objects
  abbrev pub AllRead : Entries → Type 0
  AllRead [] = Unit {0}
  AllRead (x ∷ xs) = ReadsOk (reads_of x.1) × AllRead xs

  -- and whose positions are within 64 bits
  abbrev pub EntriesOk : Entries → Type 0
  EntriesOk [] = Unit {0}
  EntriesOk (x ∷ xs) = (Near x.0 × ReadsOk (reads_of x.1)) × EntriesOk xs

  abbrev pub VerdictOk : Verdict → Type 0
  VerdictOk (Unknown o) = Named o
  VerdictOk d = Unit {0}

  abbrev pub BlockOk : PlayEnd → Type 0
  BlockOk (Played t) = Unit {0}
  BlockOk (Blocked q x) = Near q × Named x

  -- positions of entries below a tail

  pub below_ok : (m : Meaning) (cells : List (ℕ × Cell)) (t : ℕ) (ps : List ℕ) → t ≤ 2 ^ 62 → AllRead (entries_at m cells (below m t ps)) → EntriesOk (entries_at m cells (below m t ps))
  unfolding entries_at
  below_ok m cells t [] le k = tt
  below_ok m cells t (p ∷ ps) le k = by (nat_lt p t) refl k (λ r. below_ok m cells t ps le r)
    where
      less : nat_lt p t ≡ true → p < t
      less e = grind (arith, nat_tests)

      one : Near p → (e : Option Entry) → AllRead (entry_if p e (entries_at m cells (below m t ps))) → (AllRead (entries_at m cells (below m t ps)) → EntriesOk (entries_at m cells (below m t ps))) → EntriesOk (entry_if p e (entries_at m cells (below m t ps)))
      one n None k rest = rest k
      one n (Some e) k rest = ((n, k.0), rest k.1)

      by : (b : Bool) → nat_lt p t ≡ b → AllRead (entries_at m cells (cond b (p ∷ below m t ps) (below m t ps))) → (AllRead (entries_at m cells (below m t ps)) → EntriesOk (entries_at m cells (below m t ps))) → EntriesOk (entries_at m cells (cond b (p ∷ below m t ps) (below m t ps)))
      by true is k rest = one (let l = less is in omega (arith, l, le)) (cell_entry (cell_at cells p)) k rest
      by false is k rest = rest k

  pub commit_ok : (es : Entries) (p : ℕ) (e : Entry) → EntriesOk es → commit_at es p ≡ Some e → ReadsOk (reads_of e)
  unfolding commit_at
  commit_ok [] p e k is = absurd cc
  commit_ok (x ∷ xs) p e k is = by ((x.0 == p) && is_commit x.1) is (λ f. commit_ok xs p e k.1 f)
    where
      same : (a b : Entry) → Some a ≡ Some b → ReadsOk (reads_of a) → ReadsOk (reads_of b)
      same a b f r = Rattle.std.proofs.Common.subst (λ (z : Option Entry). elim z as (λ _. Type 0) [ None ↦ Unit {0} | Some y ↦ ReadsOk (reads_of y) ]) f r

      by : (b : Bool) → cond b (Some x.1) (commit_at xs p) ≡ Some e → (commit_at xs p ≡ Some e → ReadsOk (reads_of e)) → ReadsOk (reads_of e)
      by true f rest = same x.1 e f k.0.1
      by false f rest = rest f

  module _ (m : Meaning) where
    unknown_ok : (v : View m) (rs : List ReadMark) (p : ℕ) → ReadsOk rs → elim (unknown_in m v rs p) as (λ _. Type 0) [ None ↦ Unit {0} | Some o ↦ Named o ]
    unfolding unknown_in
    unknown_ok v [] p k = tt
    unknown_ok v (r ∷ rs) p k = by (unknown_by m p (base_of m v r.oid) r) (unknown_ok v rs p k.1)
      where
        by : (b : Bool) → elim (unknown_in m v rs p) as (λ _. Type 0) [ None ↦ Unit {0} | Some o ↦ Named o ]
            → elim (cond b (Some r.oid) (unknown_in m v rs p)) as (λ _. Type 0) [ None ↦ Unit {0} | Some o ↦ Named o ]
        by true rest = k.0
        by false rest = rest

    changes_ok : (x : Option Changed) → VerdictOk (by_changes m x)
    changes_ok None = tt
    changes_ok (Some x) = tt

    versions_ok : (v : View m) (rs : List ReadMark) (p : ℕ) (o : Option Oid) → elim o as (λ _. Type 0) [ None ↦ Unit {0} | Some x ↦ Named x ] → VerdictOk (by_versions m v rs p o)
    versions_ok v rs p None k = changes_ok (changed_in m v rs p)
    versions_ok v rs p (Some o) k = k

    said_ok : (b : Bool) → VerdictOk (said m b)
    said_ok true = tt
    said_ok false = tt

    pub verdict_ok : (v : View m) (es : Entries) (p : ℕ) (e : Entry) → ReadsOk (reads_of e) → VerdictOk (verdict m v es p e)
    unfolding verdict
    verdict_ok v es p e k = by (decision_in es p)
      where
        by : (d : Option Bool) → VerdictOk (by_decision m v e p d)
        by (Some b) = said_ok b
        by None = versions_ok v (reads_of e) p _ (unknown_ok v (reads_of e) p k)

    pub outcome_ok : (v : View m) (es : Entries) (p : ℕ) (e : Entry) → ReadsOk (reads_of e) → VerdictOk (view_outcome m v es p e)
    unfolding view_outcome
    outcome_ok v es p e k = by (fate_of m v p)
      where
        by : (f : Option Bool) → VerdictOk (fate_or_verdict m v es p e f)
        by None = verdict_ok v es p e k
        by (Some b) = said_ok b

    -- Plays.

    abbrev StepOk : Step m → Type 0
    StepOk (On w) = Unit {0}
    StepOk (Stuck o) = Named o

    step_ok : (v : View m) (es : Entries) (p : ℕ) (e : Entry) → ReadsOk (reads_of e) → StepOk (step_at m v es p e)
    unfolding step_at
    step_ok v es p e k = by (is_commit e)
      where
        decided : (u : View m) (d : Verdict) → VerdictOk d → StepOk (decided_step m u p e d)
        decided u Commits k = tt
        decided u Aborts k = tt
        decided u (Unknown o) k = k

        recorded : (u : View m) (d : Verdict) (b : Bool) → VerdictOk d → StepOk (record_step m u p e d b)
        recorded u d true k = tt
        recorded u d false k = decided u d k

        by : (b : Bool) → StepOk (entry_step m v es p e b)
        by true = recorded (with_open m v es p e) (verdict m v es p e) _ (verdict_ok v es p e k)
        by false = tt

    play_on_ok : (es : Entries) (upto : ℕ) (v : View m) (xs : Entries) → EntriesOk xs → BlockOk (play_on m es upto v xs).came
    unfolding play_on
    play_on_ok es upto v [] k = tt
    play_on_ok es upto v (x ∷ xs) k = by (step_at m v es x.0 x.1) (step_ok v es x.0 x.1 k.0.1) (λ w. play_on_ok es upto w xs k.1)
      where
        by : (s : Step m) → StepOk s → ((w : View m) → BlockOk (play_on m es upto w xs).came)
            → BlockOk (elim s as (λ _. Play m) [ On w ↦ play_on m es upto w xs | Stuck o ↦ record { view = stands_at m v x.0; came = Blocked x.0 o } ]).came
        by (On w) s rest = rest w
        by (Stuck o) s rest = (k.0.0, s)

    between_ok : (low high : ℕ) (es : Entries) → EntriesOk es → EntriesOk (between m low high es)
    between_ok low high [] k = tt
    between_ok low high (x ∷ xs) k = by (nat_le low x.0 && nat_lt x.0 high) (between_ok low high xs k.1)
      where
        by : (b : Bool) → EntriesOk (between m low high xs) → EntriesOk (cond b (x ∷ between m low high xs) (between m low high xs))
        by true rest = (k.0, rest)
        by false rest = rest

    pub play_ok : (v : View m) (es : Entries) (upto : ℕ) → EntriesOk es → BlockOk (play m v es upto).came
    unfolding play
    play_ok v es upto k = by (nat_lt upto v.upto)
      where
        by : (b : Bool) → BlockOk (play_from m v es upto b).came
        by true = tt
        by false = play_on_ok es upto v _ (between_ok v.upto upto es k)

    -- Forgetting, the past, and rescues.

    abbrev pub ForgetOk : Option (ForgetFault m) → Type 0
    ForgetOk None = Unit {0}
    ForgetOk (Some NoCheckpoint) = Unit {0}
    ForgetOk (Some (OpenDecision p)) = Near p

    open_ok : (es xs : Entries) (o : Oid) (mark : ℕ) → EntriesOk xs → ForgetOk (open_fault m (open_decision es xs o mark))
    unfolding open_decision
    open_ok es [] o mark k = tt
    open_ok es (x ∷ xs) o mark k = by (nat_lt x.0 mark && lists x.1 o && needs_decision x.1 && not (is_some (decision_in es x.0))) (open_ok es xs o mark k.1)
      where
        by : (b : Bool) → ForgetOk (open_fault m (open_decision es xs o mark)) → ForgetOk (open_fault m (cond b (Some x.0) (open_decision es xs o mark)))
        by true rest = k.0.0
        by false rest = rest

    pub forget_ok : (es : Entries) (o : Oid) (mark : ℕ) → EntriesOk es → ForgetOk (may_forget m es o mark)
    unfolding may_forget
    forget_ok es o mark k = by (load_from m es o mark)
      where
        by : (b : Option (Base m)) → ForgetOk (forget_fault m es o mark b)
        by None = tt
        by (Some b) = open_ok es es o mark k

    -- where walks met trims
    abbrev pub TrimsNear : TrimPoints → Type 0
    TrimsNear [] = Unit {0}
    TrimsNear (x ∷ xs) = Near x.1 × TrimsNear xs

    abbrev pub MaybeNear : Option ℕ → Type 0
    MaybeNear None = Unit {0}
    MaybeNear (Some b) = Near b

    trim_of_ok : (xs : TrimPoints) (o : Oid) → TrimsNear xs → MaybeNear (trim_of xs o)
    trim_of_ok [] o k = tt
    trim_of_ok (x ∷ xs) o k = by _ (trim_of_ok xs o k.1)
      where
        by : (b : Bool) → MaybeNear (trim_of xs o) → MaybeNear (cond b (Some x.1) (trim_of xs o))
        by true rest = k.0
        by false rest = rest

    abbrev pub PastOk : PastTurn m → Type 0
    PastOk (PastView v) = BlockOk v.came
    PastOk (PastGone b) = Near b

    pub past_ok : (es : Entries) (gone : TrimPoints) (oids objects : List Oid) (o : Oid) (pos : ℕ) → EntriesOk es → TrimsNear gone → PastOk (past_at m es gone oids objects o pos)
    unfolding past_at
    past_ok es gone oids objects o pos k t = by (trim_of gone o) (trim_of_ok gone o t)
      where
        played : BlockOk (past_play m es gone oids objects pos).came
        played = play_ok _ es pos k

        or_gone : (b : Option (Base m)) (low : ℕ) → Near low → PastOk (past_or_gone m b low (past_play m es gone oids objects pos))
        or_gone None low n = n
        or_gone (Some b) low n = played

        by : (g : Option ℕ) → MaybeNear g → PastOk (past_by m es o pos g (past_play m es gone oids objects pos))
        by None n = played
        by (Some low) n = or_gone (last_base m es o low pos) low n

    abbrev pub RescueOk : RescueTurn m → Type 0
    RescueOk (StuckAt q x) = Near q × Named x
    RescueOk t = Unit {0}

    abbrev AtOk : Option (ℕ × Oid) → Type 0
    AtOk None = Unit {0}
    AtOk (Some b) = Near b.0 × Named b.1

    pub rescue_ok : (es : Entries) (gone : TrimPoints) (oids objects : List Oid) (at : ℕ) → EntriesOk es → Near at → RescueOk (rescue_turn m es gone oids objects at)
    unfolding rescue_turn
    rescue_ok es gone oids objects at k n = by (block_in m y es at y.came) (blocked y.came (play_ok (view_start m (view_bases m es gone objects oids)) es (at + 1) k))
      where
        y : Play m
        y = play m (view_start m (view_bases m es gone objects oids)) es (at + 1)

        record_ok : (d : Verdict) → VerdictOk d → AtOk (record_block m y.view es at d)
        record_ok Commits v = tt
        record_ok Aborts v = tt
        record_ok (Unknown o) v = (n, v)

        entry_ok : (e : Option Entry) → commit_at es at ≡ e → AtOk (entry_block m y.view es at e)
        entry_ok None is = tt
        entry_ok (Some e) is = record_ok _ (outcome_ok y.view es at e (commit_ok es at e k is))

        blocked : (came : PlayEnd) → BlockOk came → AtOk (block_in m y es at came)
        blocked (Played t) b = entry_ok (commit_at es at) refl
        blocked (Blocked q x) b = b

        known : (e : Entry) (d : Verdict) → VerdictOk d → RescueOk (known_by m es at e d)
        known e Commits v = tt
        known e Aborts v = tt
        known e (Unknown o) v = (n, v)

        recorded : (b : Option (ℕ × Oid)) → AtOk b → (e : Option Entry) → commit_at es at ≡ e → RescueOk (at_record m y.view es at b e)
        recorded b a None is = tt
        recorded (Some b) a (Some e) is = a
        recorded None a (Some e) is = known e _ (outcome_ok y.view es at e (commit_ok es at e k is))

        grown : (o : Oid) (b : Bool) → RescueOk (cond b Wide (Wider o))
        grown o true = tt
        grown o false = tt

        by : (b : Option (ℕ × Oid)) → AtOk b → RescueOk (rescue_by m y es oids at b)
        by None a = recorded None tt (commit_at es at) refl
        by (Some b) a = inside (has_oid b.1 oids)
          where
            inside : (t : Bool) → RescueOk (cond t (at_record m y.view es at (Some b) (commit_at es at)) (grows m oids b.1))
            inside true = recorded (Some b) a (commit_at es at) refl
            inside false = grown b.1 _
