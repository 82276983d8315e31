-- Where there is no past view for a trim that the walk of the asked object's stream met, no checkpoint of the object below the tail is from
-- the trim to the position.
use Rattle.std.proofs.Common.{◌≡◌, ◌⊎◌, ℕ, ◌<◌, ◌≤◌, List, [], ◌∷◌, ◌++◌, filter, cond, Bool, true, false, refl, sym, ap, ◌∙◌, subst, inl, inr, arith, Option, Some, None}
use Rattle.std.specs.Prelude.{Contains}
use Rattle.std.proofs.lemmas.Bool.Decides.{nat_tests}
use Rattle.tg_base.specs.declared.ids.Oid.{Oid}
use Rattle.tg_base.specs.declared.msg.Msg.TheVariants as msg
use Rattle.tg_entry.specs.declared.entry.Entry.{Entry}
use Rattle.tg_kind.specs.Meaning.{Meaning}
use Rattle.tg_model.specs.declared.command.Command.TheVariants as cmd
use Rattle.tg_model.specs.declared.refusal.Refusal.TheVariants as cause
use Rattle.tg_model.specs.Kinds.{CommandOf, EventOf}
use Rattle.tg_protocol.specs.Alike.{SentNow}
use Rattle.tg_protocol.specs.Causes.{NamedTrimmed, OwnTrimmed, CauseAtOnce, CauseLater, HasCause}
use Rattle.tg_protocol.specs.Checkpoints.{TrimPoints, trim_of, base_at, option_list, bases_in, greatest_base, within}
use Rattle.tg_protocol.specs.Clients.{Work, Client, member_entries}
use Rattle.tg_protocol.specs.Entries.{lists}
use Rattle.tg_protocol.specs.Logs.{Log, entries_of}
use Rattle.tg_protocol.specs.Past.{PastTurn, PastView, PastGone, last_base, past_play, past_or_gone, past_by, past_at}
use Rattle.tg_protocol.specs.Views.{Entries, Base, Play}
use Rattle.tg_protocol.specs.Words.{cell_at, client_id, unit_id}
use Rattle.tg_protocol.specs.Worlds.{World, Told, happens}
use Rattle.tg_law_syncs.specs.Finds.Left.{SavesPrecede}
use Rattle.tg_law_walks.specs.Walks.Rounds.{round, IsRound}
use Rattle.tg_law_walks.specs.Walks.Streams.{IsByPosition}
use Rattle.tg_law_walks.proofs.Walks.Cells.{entry_there}
use Rattle.tg_law_walks.proofs.Walks.Members.{Has, has_contained}
use Rattle.tg_law_walks.proofs.Walks.Plays.{trimmed}
use Rattle.tg_law_claims.proofs.Answers.Forgets.{listed_in}

kept_has : {X : Type 0} → (f : X → Bool) (xs : List X) (x : X) → Has xs x → f x ≡ true → Has (filter f xs) x
kept_has f [] x i is = absurd i
kept_has f (y ∷ ys) x i is = by (f y) refl i (λ j. kept_has f ys x j is)
  where
    differ : true ≡ false → ⊥
    differ z = cc

    by : (b : Bool) → f y ≡ b → Has (y ∷ ys) x → (Has ys x → Has (filter f ys) x) → Has (cond b (y ∷ filter f ys) (filter f ys)) x
    by true e (inl same) rest = inl same
    by true e (inr j) rest = inr (rest j)
    by false e (inl same) rest = absurd (differ (sym is ∙ (ap f same ∙ e)))
    by false e (inr j) rest = rest j

right_has : {X : Type 0} → (xs ys : List X) (x : X) → Has ys x → Has (xs ++ ys) x
right_has [] ys x i = i
right_has (z ∷ xs) ys x i = inr (right_has xs ys x i)

module _ (m : Meaning) where
  some_has : (o : Option (Base m)) (b : Base m) (bs : List (Base m)) → o ≡ Some b → Has (option_list m o ++ bs) b
  some_has None b bs e = absurd cc
  some_has (Some c) b bs e = inl (one b c e)
    where
      one : (x y : Base m) → Some y ≡ Some x → x ≡ y
      one x y z = cc

  bases_have : (es : Entries) (o : Oid) (p : ℕ) (d : Entry) (b : Base m) → Has es (p, d) → base_at m o d ≡ Some b → Has (bases_in m es o) b
  unfolding bases_in
  bases_have [] o p d b i is = absurd i
  bases_have (x ∷ xs) o p d b (inl same) is = some_has (base_at m o x.1) b (bases_in m xs o) (ap (λ (y : ℕ × Entry). base_at m o y.1) (sym same) ∙ is)
  bases_have (x ∷ xs) o p d b (inr i) is = right_has (option_list m (base_at m o x.1)) (bases_in m xs o) b (bases_have xs o p d b i is)

  none_greatest : (bs : List (Base m)) (b : Base m) → greatest_base m bs ≡ None → Has bs b → ⊥
  none_greatest [] b e i = i
  none_greatest (c ∷ bs) b e i = cc

  -- without a base from a trim to a position no entry gives one
  none_within : (es : Entries) (o : Oid) (below pos p : ℕ) (d : Entry) (b : Base m) → last_base m es o below pos ≡ None → Has es (p, d) → base_at m o d ≡ Some b → below ≤ b.upto → b.upto ≤ pos → ⊥
  none_within es o below pos p d b none i is low high =
      none_greatest (filter (within m below pos) (bases_in m es o)) b none (kept_has (within m below pos) (bases_in m es o) b (bases_have es o p d b i is) (grind (arith, nat_tests, low, high)))

  -- the asked object's walk met that trim
  pub gone_at : (es : Entries) (gone : TrimPoints) (oids objects : List Oid) (o : Oid) (pos below : ℕ) → past_at m es gone oids objects o pos ≡ PastGone below → (trim_of gone o ≡ Some below) × (last_base m es o below pos ≡ None)
  unfolding past_at
  gone_at es gone oids objects o pos below is = by (trim_of gone o) refl is
    where
      one : (x y : ℕ) → ◌≡◌ {A = PastTurn m} (PastGone x) (PastGone y) → x ≡ y
      one x y z = cc

      not_gone : (v : Play m) (x : ℕ) → ◌≡◌ {A = PastTurn m} (PastView v) (PastGone x) → ⊥
      not_gone v x z = cc

      or_gone : (x : Option (Base m)) (n : ℕ) (v : Play m) → past_or_gone m x n v ≡ PastGone below → (x ≡ None) × (n ≡ below)
      or_gone None n v k = (refl, one n below k)
      or_gone (Some b) n v k = absurd (not_gone v below k)

      by : (t : Option ℕ) → trim_of gone o ≡ t → past_by m es o pos t (past_play m es gone oids objects pos) ≡ PastGone below → (trim_of gone o ≡ Some below) × (last_base m es o below pos ≡ None)
      by None e k = absurd (not_gone (past_play m es gone oids objects pos) below k)
      by (Some n) e k =
          let g = or_gone (last_base m es o n pos) n (past_play m es gone oids objects pos) k in
          (e ∙ ap (λ (y : ℕ). Some y) g.1, subst (λ (y : ℕ). last_base m es o y pos ≡ None) g.1 g.0)

  -- A client whose walks are over.
  module _ (l : Log) (byp : IsByPosition l) (c : Client m) (w : Work m) (h : IsRound m l (round m c w c.cells) []) (precede : SavesPrecede m (entries_of l)) (o : Oid) (asked : Contains w.oids o) where
    pub no_base_within : (at below : ℕ) → past_at m (member_entries m c w w.oids) w.trims w.oids c.objects o at ≡ PastGone below
        → (q : ℕ) (d : Entry) (b : Base m) → Contains (entries_of l) (q, d) → q < w.tail → base_at m o d ≡ Some b → below ≤ b.upto → b.upto ≤ at → ⊥
    no_base_within at below is q d b there less gives low high =
        none_within (member_entries m c w w.oids) o below at q d b met.1 (trimmed m l byp c w h w.oids [] (λ x i. i) o below asked met.0 q d (omega (arith, low, up)) less i stands) gives low high
      where
        met : (trim_of w.trims o ≡ Some below) × (last_base m (member_entries m c w w.oids) o below at ≡ None)
        met = gone_at (member_entries m c w w.oids) w.trims w.oids c.objects o at below is

        i : Has (entries_of l) (q, d)
        i = has_contained (entries_of l) (q, d) there

        up : b.upto ≤ q
        up = precede q d o b there gives

        stands : lists d o ≡ true
        stands = listed_in m (cell_at l q) d o b (entry_there 0 l q d byp i) gives

-- What a refusal by `forgotten` was told.
module _ (m : Meaning) (w : World m) (e : EventOf m) (t : Told m) (at below : ℕ) where
  named_told : (x : CommandOf m) → NamedTrimmed m x (happens m w e) t at below → SentNow m (happens m w e) t (msg.Gone below)
  named_told (cmd.Fate p) k = k.2
  named_told (cmd.Decide p) k = k.2
  named_told (cmd.Rescue p) k = k.2
  named_told (cmd.AskAt p o q) k = k.1
  named_told x k = absurd k

  own_told : OwnTrimmed m (happens m w e) t at below → SentNow m (happens m w e) t (msg.Gone below)
  own_told k = record {
    rid = k.2.rid;
    now = k.2.now;
    sent = record { packet = record { from = unit_id k.0; to = client_id t.mark.client; rid = k.2.rid; msg = msg.Gone below }; sent = k.2.was_answered; to = refl; number = refl; says = refl };
  }

  pub gone_told : HasCause m w e t (cause.Forgotten at below) → SentNow m (happens m w e) t (msg.Gone below)
  gone_told k = by k.because
    where
      by : CauseAtOnce m w t.mark.client k.command (cause.Forgotten at below) ⊎ CauseLater m w e t k.command (cause.Forgotten at below) → SentNow m (happens m w e) t (msg.Gone below)
      by (inl z) = absurd z
      by (inr (inl z)) = named_told k.command z
      by (inr (inr z)) = own_told z
