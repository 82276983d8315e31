-- A command that trims asks units to trim once all is walked, or is answered then.
use Rattle.std.proofs.Common.{◌≡◌, ℕ, [], Bool, true, false, refl, ◌∙◌, sym, subst, None}
use Rattle.tg_kind.specs.Meaning.{Meaning}
use Rattle.tg_model.specs.declared.command.Command.TheVariants as cmd
use Rattle.tg_model.specs.declared.play.PlayEnd.{PlayEnd}
use Rattle.tg_model.specs.declared.play.PlayEnd.TheVariants.{Played, Blocked}
use Rattle.tg_model.specs.Kinds.{CommandOf}
use Rattle.tg_protocol.specs.Trimming.{trim_start}
use Rattle.tg_protocol.specs.Views.{View, Entries, Play, play}
use Rattle.tg_protocol.specs.Clients.{Work, Client, all_entries}
use Rattle.tg_protocol.specs.Answers.{Moved, trim_begun, trims_if, on_trim, with_view, own_view, play_target, answer_by, played_on, walked_for, walked}
use Rattle.tg_law_finish.proofs.Finish.Readers.{Answers, Way}

module _ (m : Meaning) where
  pub data Trims' (c : Client m) : Moved m → Type 0 where
    TrimEnds : (x : Moved m) → Answers m x → Trims' c x
    TrimAsks : (d : Client m) (w : Work m) (b : ℕ) → d.stand ≡ c.stand → d.next ≡ c.next → Trims' c (trim_begun m d w b (trim_start d.stand b d.next))

  over : (c : Client m) (x : Moved m) → x.now.work ≡ None → x.besides ≡ [] → Trims' c x
  over c x none besides = TrimEnds x (record { none = none; besides = besides })

  floor_case : (c : Client m) (w : Work m) (b : ℕ) (none : Bool) → Trims' c (trims_if m c w b none)
  floor_case c w b true = over c _ refl refl
  floor_case c w b false = TrimAsks c w b refl refl

  trim_case : (c : Client m) (w : Work m) (v : View m) (came : PlayEnd) → Trims' c (on_trim m c w v came)
  trim_case c w v (Played t) = floor_case c w _ _
  trim_case c w v (Blocked q x) = over c _ refl refl

  -- a view that was played changes nothing of this
  seen : (c : Client m) (v : View m) (x : Moved m) → Trims' (with_view m c v) x → Trims' c x
  seen c v x (TrimEnds y a) = TrimEnds y a
  seen c v x (TrimAsks d w b stand next) = TrimAsks d w b stand next

  played : (c : Client m) (w : Work m) (es : Entries) (p : Play m) → w.command ≡ cmd.Trim → Trims' c (played_on m c w es p)
  played c w es p e = subst (λ (y : CommandOf m). Trims' c (answer_by m (with_view m c p.view) w es p y)) (sym e) (seen c p.view _ (trim_case (with_view m c p.view) w p.view p.came))

  walked_by : (c : Client m) (w : Work m) (x : CommandOf m) → w.command ≡ x → x ≡ cmd.Trim → Trims' c (walked_for m c w x)
  walked_by c w x e is =
      let es = all_entries m c w c.hosted in
      subst (λ (y : CommandOf m). Trims' c (walked_for m c w y)) (sym is) (played c w es (play m (own_view m c w es) es (play_target m w w.command)) (e ∙ is))

  pub walked_trims : (c : Client m) (w : Work m) → w.command ≡ cmd.Trim → Trims' c (walked m c w)
  unfolding walked
  walked_trims c w is = walked_by c w w.command refl is

  abbrev pub trimming_way : Way m
  trimming_way = record { Is = λ x n. x ≡ cmd.Trim; GoesOn = λ c x. Trims' c x; on = λ c w is. walked_trims c w is }
