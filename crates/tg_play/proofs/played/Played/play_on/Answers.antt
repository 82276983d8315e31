use Rattle.std.proofs.Common.{ℕ, ◌+◌, ◌∷◌, Option, drop, sym, ◌∙◌, subst}
use Rattle.tg_base.specs.declared.ids.Oid.{Oid}
use Rattle.tg_model.specs.declared.play.PlayEnd.TheVariants.{Played, Blocked}
use Rattle.tg_protocol.specs.Views.{Entries, step_at, between, play_on}
use Rattle.tg_play.specs.Kept.{Kept}
use Rattle.tg_play.specs.Lawful.{AreLawful, IsLawfulView, StaysLawful}
use Rattle.tg_play.specs.Relations.{Stepped, PlayedOn}
use Rattle.tg_play.proofs.Means.{means}
use Rattle.tg_play.proofs.Splitting.{drop_item, drop_all}
use Rattle.tg_play.proofs.Playing.{Reached, reached_start, reached_over, reached_step, reached_stuck, reached_end}
use Rattle.tg_play.proofs.Lasting.{Lasts, lasts_start, lasts_over, lasts_on, lasts_stuck, lasts_end}
use Rattle.tg_play.proofs.played.Played.play_on.Goals as goal

pub loop-pos-init : goal.loop-pos-init
loop-pos-init g c = record {
  played = λ v k. reached_start (means g.K.Kind g.K.Registry) c.args.entries.now c.args.upto c.args.from v c.args.self.now c.requires.begun c.requires.onward c.requires.rising k;
  lawful = λ k. lasts_start c.args.from c.args.upto c.args.self.now.objects c.args.entries.now c.requires.onward c.requires.rising (subst (λ (n : ℕ). AreLawful n c.args.self.now.objects) (sym c.requires.begun) k);
}

pub loop-pos-preserved-then-not-is_due : goal.loop-pos-preserved-then-not-is_due
loop-pos-preserved-then-not-is_due g c = record {
  played = λ v k.
      reached_over (means g.K.Kind g.K.Registry) c.args.entries.now c.args.upto c.args.from c.loop-pos-item.result (drop (c.loop-pos.pos-index + 1) c.args.entries.now) v c.loop-pos.self
      (sym c.is_due.ensures ∙ c.if-not-is_due.true)
      (subst (λ (xs : Entries). Reached (means g.K.Kind g.K.Registry) c.args.entries.now c.args.upto c.args.from v c.loop-pos.self xs)
      (drop_item c.args.entries.now c.loop-pos.pos-index c.loop-pos-item.result c.loop-pos-test.true c.loop-pos-item.is) (c.loop-pos.invariant.played v k));
  lawful = λ k.
      lasts_over c.args.from c.args.upto c.loop-pos.self.objects c.loop-pos-item.result (drop (c.loop-pos.pos-index + 1) c.args.entries.now)
      (subst (λ (xs : Entries). Lasts c.args.from c.args.upto c.loop-pos.self.objects xs)
      (drop_item c.args.entries.now c.loop-pos.pos-index c.loop-pos-item.result c.loop-pos-test.true c.loop-pos-item.is) (c.loop-pos.invariant.lawful k));
}

pub loop-pos-preserved : goal.loop-pos-preserved
loop-pos-preserved g c = record {
  played = λ v k.
      reached_step (means g.K.Kind g.K.Registry) c.args.entries.now c.args.upto c.args.from c.loop-pos-item.result (drop (c.loop-pos.pos-index + 1) c.args.entries.now) v c.loop-pos.self c.step.new.self
      (sym c.is_due.ensures ∙ c.if-not-is_due.false)
      (λ w kept. subst (λ (o : Option Oid). Stepped (means g.K.Kind g.K.Registry) c.loop-pos-item.result.0 c.step.new.self w o (step_at (means g.K.Kind g.K.Registry) w c.args.entries.now c.loop-pos-item.result.0 c.loop-pos-item.result.1))
      c.in_default.is (c.in_ok-missing.ensures.stepped w c.args.entries.now c.requires.decided kept))
      (subst (λ (xs : Entries). Reached (means g.K.Kind g.K.Registry) c.args.entries.now c.args.upto c.args.from v c.loop-pos.self xs)
      (drop_item c.args.entries.now c.loop-pos.pos-index c.loop-pos-item.result c.loop-pos-test.true c.loop-pos-item.is) (c.loop-pos.invariant.played v k));
  lawful = λ k.
      let so_far : Lasts c.args.from c.args.upto c.loop-pos.self.objects (c.loop-pos-item.result ∷ drop (c.loop-pos.pos-index + 1) c.args.entries.now) =
      subst (λ (xs : Entries). Lasts c.args.from c.args.upto c.loop-pos.self.objects xs)
      (drop_item c.args.entries.now c.loop-pos.pos-index c.loop-pos-item.result c.loop-pos-test.true c.loop-pos-item.is) (c.loop-pos.invariant.lawful k) in
      lasts_on c.args.from c.args.upto c.loop-pos.self.objects c.step.new.self.objects c.loop-pos-item.result (drop (c.loop-pos.pos-index + 1) c.args.entries.now)
      (sym c.is_due.ensures ∙ c.if-not-is_due.false) so_far
      (subst (λ (o : Option Oid). StaysLawful so_far.bound c.loop-pos-item.result.0 o c.step.new.self.objects) c.in_default.is (c.in_ok-missing.ensures.lawful so_far.bound so_far.lawful));
}

pub returns-in-Some-clause-played : goal.returns-in-Some-clause-played
returns-in-Some-clause-played g c = λ v k.
    subst (λ (x : Kept g.row.K.Denot). PlayedOn (means g.K.Kind g.K.Registry) x (Blocked c.loop-pos-item.result.0 c.in-Some.missing)
    (play_on (means g.K.Kind g.K.Registry) c.args.entries.now c.args.upto v (between (means g.K.Kind g.K.Registry) c.args.from c.args.upto c.args.entries.now))) (sym c.stand.ensures)
    (reached_stuck (means g.K.Kind g.K.Registry) c.args.entries.now c.args.upto c.args.from c.loop-pos-item.result (drop (c.loop-pos.pos-index + 1) c.args.entries.now) v c.loop-pos.self c.step.new.self c.in-Some.missing
    (sym c.is_due.ensures ∙ c.if-not-is_due.false)
    (λ w kept. subst (λ (o : Option Oid). Stepped (means g.K.Kind g.K.Registry) c.loop-pos-item.result.0 c.step.new.self w o (step_at (means g.K.Kind g.K.Registry) w c.args.entries.now c.loop-pos-item.result.0 c.loop-pos-item.result.1))
    c.in-Some.is (c.in_ok-missing.ensures.stepped w c.args.entries.now c.requires.decided kept))
    (subst (λ (xs : Entries). Reached (means g.K.Kind g.K.Registry) c.args.entries.now c.args.upto c.args.from v c.loop-pos.self xs)
    (drop_item c.args.entries.now c.loop-pos.pos-index c.loop-pos-item.result c.loop-pos-test.true c.loop-pos-item.is) (c.loop-pos.invariant.played v k)))

pub returns-in-Some-clause-lawful : goal.returns-in-Some-clause-lawful
returns-in-Some-clause-lawful g c = λ k.
    let so_far : Lasts c.args.from c.args.upto c.loop-pos.self.objects (c.loop-pos-item.result ∷ drop (c.loop-pos.pos-index + 1) c.args.entries.now) =
    subst (λ (xs : Entries). Lasts c.args.from c.args.upto c.loop-pos.self.objects xs)
    (drop_item c.args.entries.now c.loop-pos.pos-index c.loop-pos-item.result c.loop-pos-test.true c.loop-pos-item.is) (c.loop-pos.invariant.lawful k) in
    subst (λ (x : Kept g.row.K.Denot). IsLawfulView x) (sym c.stand.ensures)
    (lasts_stuck c.args.from c.args.upto c.loop-pos.self.objects c.step.new.self.objects c.loop-pos-item.result (drop (c.loop-pos.pos-index + 1) c.args.entries.now) c.in-Some.missing
    (sym c.is_due.ensures ∙ c.if-not-is_due.false) so_far
    (subst (λ (o : Option Oid). StaysLawful so_far.bound c.loop-pos-item.result.0 o c.step.new.self.objects) c.in-Some.is (c.in_ok-missing.ensures.lawful so_far.bound so_far.lawful)))

pub returns-clause-played : goal.returns-clause-played
returns-clause-played g c = λ v k.
    subst (λ (x : Kept g.row.K.Denot). PlayedOn (means g.K.Kind g.K.Registry) x (Played c.args.upto)
    (play_on (means g.K.Kind g.K.Registry) c.args.entries.now c.args.upto v (between (means g.K.Kind g.K.Registry) c.args.from c.args.upto c.args.entries.now))) (sym c.stand-2.ensures)
    (reached_end (means g.K.Kind g.K.Registry) c.args.entries.now c.args.upto c.args.from v c.loop-pos.self
    (subst (λ (xs : Entries). Reached (means g.K.Kind g.K.Registry) c.args.entries.now c.args.upto c.args.from v c.loop-pos.self xs)
    (drop_all c.args.entries.now c.loop-pos.pos-index c.loop-pos-test.false) (c.loop-pos.invariant.played v k)))

pub returns-clause-lawful : goal.returns-clause-lawful
returns-clause-lawful g c = λ k.
    subst (λ (x : Kept g.row.K.Denot). IsLawfulView x) (sym c.stand-2.ensures)
    (lasts_end c.args.from c.args.upto c.loop-pos.self.objects
    (subst (λ (xs : Entries). Lasts c.args.from c.args.upto c.loop-pos.self.objects xs) (drop_all c.args.entries.now c.loop-pos.pos-index c.loop-pos-test.false) (c.loop-pos.invariant.lawful k)))
