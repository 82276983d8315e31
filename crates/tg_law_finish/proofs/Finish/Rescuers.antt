-- A rescue once all is walked: it is answered, appends a decision record, or walks one stream more.
use Rattle.std.proofs.Common.{◌≡◌, ℕ, suc, ◌+◌, ◌<◌, ◌≤◌, List, [], ◌∷◌, length, Bool, true, false, refl, ap, ◌∙◌, subst, arith, Some, None, Option}
use Rattle.std.specs.Prelude.{nat_le, if◌then◌else◌}
use Rattle.tg_base.specs.Orders.{oid_eq, oid_lt, with_oid}
use Rattle.tg_base.specs.declared.ids.Oid.{Oid}
use Rattle.tg_entry.specs.declared.entry.Entry.{Entry}
use Rattle.tg_kind.specs.Meaning.{Meaning}
use Rattle.tg_model.specs.declared.command.Command.TheVariants as cmd
use Rattle.tg_model.specs.Kinds.{CommandOf}
use Rattle.tg_protocol.specs.Words.{has_oid}
use Rattle.tg_protocol.specs.Checkpoints.{TrimPoints, view_bases}
use Rattle.tg_protocol.specs.Past.{commit_at, RescueTurn, Wider, Wide, Absent, StuckAt, Known, block_in, rescue_played, rescue_turn}
use Rattle.tg_protocol.specs.Past as past
use Rattle.tg_protocol.specs.Views.{View, Entries, Verdict, Commits, Aborts, Unknown, Play, view_start, view_outcome, play}
use Rattle.tg_protocol.specs.Clients.{Work, Client, all_entries}
use Rattle.tg_protocol.specs.Answers.{Moved, syncs, with_decision, rescue_decision, rescue_known, absent, rescue_by, walked_for, walked}
use Rattle.tg_law_finish.specs.Finish.Appends.{is_last}
use Rattle.tg_law_finish.specs.Finish.Rescues.{is_rescue}
use Rattle.tg_law_finish.proofs.Finish.Makers.{Makes', Ends', Appends'}
use Rattle.tg_law_finish.proofs.Finish.Readers.{Way}

-- an object that isn't there is one more
pub one_more : (o : Oid) (os : List Oid) → has_oid o os ≡ false → length (with_oid o os) ≡ suc (length os)
one_more o [] e = refl
one_more o (x ∷ xs) e = by (one_more o xs (rest e)) (oid_lt o x) (oid_eq o x) (first e)
  where
    first : has_oid o (x ∷ xs) ≡ false → oid_eq o x ≡ false
    first e = grind arith

    rest : has_oid o (x ∷ xs) ≡ false → has_oid o xs ≡ false
    rest e = grind arith

    by : length (with_oid o xs) ≡ suc (length xs) → (a b : Bool) → b ≡ false → length (if a then o ∷ x ∷ xs else (if b then x ∷ xs else x ∷ with_oid o xs)) ≡ suc (suc (length xs))
    by e true b f = refl
    by e false true f = absurd cc
    by e false false f = ap suc e

module _ (m : Meaning) where
  record_narrow : (v : View m) (es : Entries) (at : ℕ) (b : Option (ℕ × Oid)) (e : Option Entry) (o : Oid) → past.at_record m v es at b e ≡ Wider o → ⊥
  record_narrow v es at b None o e = cc
  record_narrow v es at (Some b) (Some d) o e = cc
  record_narrow v es at None (Some d) o e = by (view_outcome m v es at d) e
    where
      by : (x : Verdict) → past.known_by m es at d x ≡ Wider o → ⊥
      by Commits e = cc
      by Aborts e = cc
      by (Unknown x) e = cc

  -- a wider set has one object more, which wasn't among fewer than 128
  pub wider_is : (es : Entries) (ts : TrimPoints) (os objects : List Oid) (at : ℕ) (o : Oid) → rescue_turn m es ts os objects at ≡ Wider o → (has_oid o os ≡ false) × (length os < 128)
  unfolding rescue_turn
  wider_is es ts os objects at o e = by (play m (view_start m (view_bases m es ts objects os)) es (at + 1)) e
    where
      few : (n : ℕ) → nat_le 128 n ≡ false → n < 128
      few n l = grind arith

      same : (x o : Oid) → ◌≡◌ {A = RescueTurn m} (Wider x) (Wider o) → x ≡ o
      same x o e = cc

      grown : (x : Oid) (b : Bool) → nat_le 128 (length os) ≡ b → has_oid x os ≡ false → ◌≡◌ {A = RescueTurn m} (if b then Wide else Wider x) (Wider o) → (has_oid o os ≡ false) × (length os < 128)
      grown x true l f e = absurd cc
      grown x false l f e = (subst (λ (y : Oid). has_oid y os ≡ false) (same x o e) f, few (length os) l)

      block : (p : Play m) (b : Option (ℕ × Oid)) → past.rescue_by m p es os at b ≡ Wider o → (has_oid o os ≡ false) × (length os < 128)
      block p None e = absurd (record_narrow p.view es at None (commit_at es at) o e)
      block p (Some b) e = has (has_oid b.1 os) refl e
        where
          has : (c : Bool) → has_oid b.1 os ≡ c → (if c then past.at_record m p.view es at (Some b) (commit_at es at) else past.grows m os b.1) ≡ Wider o → (has_oid o os ≡ false) × (length os < 128)
          has true f e = absurd (record_narrow p.view es at (Some b) (commit_at es at) o e)
          has false f e = grown b.1 (nat_le 128 (length os)) refl f e

      by : (p : Play m) → rescue_played m p es os at ≡ Wider o → (has_oid o os ≡ false) × (length os < 128)
      by p e = block p (block_in m p es at p.came) e

  -- it is over, or appends; or it walks one stream more, where so many may still join
  pub data Rescues' (room : ℕ) (c : Client m) : Moved m → Type 0 where
    RescueEnds : (x : Moved m) → Makes' m c x → Rescues' room c x
    RescueGrows : (w : Work m) (o : Oid) → is_rescue m w.command ≡ true → 128 ≤ length w.oids + room → has_oid o w.oids ≡ false → length w.oids < 128 → Rescues' room c (syncs m c w (with_oid o w.oids))

  over : (c : Client m) (x : Moved m) → x.now.work ≡ None → x.besides ≡ [] → Makes' m c x
  over c x none besides = Ends' x (record { none = none; besides = besides })

  decision_case : (c : Client m) (w : Work m) (es : Entries) (p : ℕ) (so : Bool) (e : Option Entry) → Makes' m c (rescue_decision m c w es p so e)
  unfolding is_last
  decision_case c w es p so None = over c _ refl refl
  decision_case c w es p so (Some e) = Appends' (with_decision m c) w _ _ [] refl refl refl

  known_case : (c : Client m) (w : Work m) (es : Entries) (p : ℕ) (so needs : Bool) → Makes' m c (rescue_known m c w es p so needs)
  known_case c w es p so true = decision_case c w es p so _
  known_case c w es p so false = over c _ refl refl

  absent_case : (c : Client m) (p : ℕ) (b : Option ℕ) → Makes' m c (absent m c p b)
  absent_case c p None = over c _ refl refl
  absent_case c p (Some b) = over c _ refl refl

  turn_case : (room : ℕ) (c : Client m) (w : Work m) (es : Entries) (p : ℕ) (t : RescueTurn m) → is_rescue m w.command ≡ true → 128 ≤ length w.oids + room → ((o : Oid) → t ≡ Wider o → (has_oid o w.oids ≡ false) × (length w.oids < 128)) → Rescues' room c (rescue_by m c w es p t)
  turn_case room c w es p (Wider o) is few f = let g = f o refl in RescueGrows w o is few g.0 g.1
  turn_case room c w es p Wide is few f = RescueEnds _ (over c _ refl refl)
  turn_case room c w es p Absent is few f = RescueEnds _ (absent_case c p _)
  turn_case room c w es p (StuckAt q x) is few f = RescueEnds _ (over c _ refl refl)
  turn_case room c w es p (Known so needs) is few f = RescueEnds _ (known_case c w es p so needs)

  walked_by : (room : ℕ) (c : Client m) (w : Work m) (x : CommandOf m) → w.command ≡ x → is_rescue m x ≡ true → 128 ≤ length w.oids + room → Rescues' room c (walked_for m c w x)
  unfolding is_rescue
  walked_by room c w (cmd.Rescue p) e t few = turn_case room c w _ p _ (ap (λ y. is_rescue m y) e ∙ t) few (λ o is. wider_is (all_entries m c w w.oids) w.trims w.oids c.objects p o is)
  walked_by room c w (cmd.Ask o q) e t few = absurd cc
  walked_by room c w (cmd.Fate p) e t few = absurd cc
  walked_by room c w (cmd.AskAt p o q) e t few = absurd cc
  walked_by room c w (cmd.Host o) e t few = absurd cc
  walked_by room c w cmd.Begin e t few = absurd cc
  walked_by room c w (cmd.Put o op) e t few = absurd cc
  walked_by room c w cmd.End e t few = absurd cc
  walked_by room c w cmd.Drop e t few = absurd cc
  walked_by room c w (cmd.Decide p) e t few = absurd cc
  walked_by room c w (cmd.Checkpoint o) e t few = absurd cc
  walked_by room c w (cmd.Forget o n) e t few = absurd cc
  walked_by room c w cmd.Trim e t few = absurd cc
  walked_by room c w (cmd.Reconf x) e t few = absurd cc
  walked_by room c w (cmd.Copy u r s) e t few = absurd cc

  pub walked_rescues : (room : ℕ) (c : Client m) (w : Work m) → (is_rescue m w.command ≡ true) × (128 ≤ length w.oids + room) → Rescues' room c (walked m c w)
  unfolding walked
  walked_rescues room c w t = walked_by room c w w.command refl t.0 t.1

  -- where so many streams may still join
  abbrev pub rescuing_way : ℕ → Way m
  rescuing_way room = record { Is = λ x n. (is_rescue m x ≡ true) × (128 ≤ n + room); GoesOn = λ c x. Rescues' room c x; on = λ c w t. walked_rescues room c w t }
