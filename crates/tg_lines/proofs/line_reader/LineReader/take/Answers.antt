use Rattle.std.proofs.Common.{◌+◌, List, ℕ, true, false, sym, subst}
use Rattle.tg_lines.specs.Lines.{IsTaken, held}
use Rattle.tg_lines.proofs.Pieces.{piece_part, piece_all}
use Rattle.tg_lines.proofs.line_reader.LineReader.take.Goals as goal

pub returns-in_ok-extend-in-Some : goal.returns-in_ok-extend-in-Some
returns-in_ok-extend-in-Some c =
    let r = c.self.inside in
    let t = piece_part r.piece c.args.line.now c.extend.new.self r.from r.to c.in-Some.at (sym c.in-Some.ensures) c.in_ok-extend-in-Some.ensures.ok in
    subst (λ (bytes : List ℕ). IsTaken bytes (held r.piece (r.from + (c.in-Some.at + 1)) r.to) c.args.line.now c.extend.new.self true) c.self.view_is t

pub returns-in_ok-extend-in-None : goal.returns-in_ok-extend-in-None
returns-in_ok-extend-in-None c =
    let r = c.self.inside in
    let t = piece_all r.piece c.args.line.now c.extend-in-None.new.self r.from r.to (sym c.in-None.ensures) c.in_ok-extend-in-None.ensures.ok in
    subst (λ (bytes : List ℕ). IsTaken bytes (held r.piece r.to r.to) c.args.line.now c.extend-in-None.new.self false) c.self.view_is t
