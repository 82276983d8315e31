use Rattle.std.proofs.Common.{drop}
use Rattle.tg_protocol.specs.Views.{View}
use Rattle.tg_play.specs.Lawful.{IsLawfulView}
use Rattle.tg_play.specs.Relations.{KeepsView}
use Rattle.tg_play.proofs.Means.{means}
use Rattle.tg_play.proofs.Playing.{Reached}
use Rattle.tg_play.proofs.Lasting.{Lasts}
use Rattle.tg_play.proofs.played.Played.play_on.Given as goal

abbrev pub invariant-loop-pos : goal.invariant-loop-pos
invariant-loop-pos g l = record {
  played : (v : View (means g.K.Kind g.K.Registry)) → KeepsView (means g.K.Kind g.K.Registry) l.initial.self v → Reached (means g.K.Kind g.K.Registry) l.entries l.upto l.from v l.self (drop l.pos-index l.entries);
  lawful : IsLawfulView l.initial.self → Lasts l.from l.upto l.self.objects (drop l.pos-index l.entries);
}
