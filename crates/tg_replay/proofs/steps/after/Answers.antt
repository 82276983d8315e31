use Rattle.std.proofs.Common.{refl, sym, ◌∙◌}
use Rattle.tg_replay.proofs.steps.after.Goals as goal

pub returns-in-None-clause-made : goal.returns-in-None-clause-made
returns-in-None-clause-made c = λ r x same next kept over. (sym over ∙ c.in-None.is, record { cluster = same; world = kept; events = next })

pub returns-in-Some-clause-made : goal.returns-in-Some-clause-made
returns-in-Some-clause-made c = λ r x same next kept over. record {
  which = c.in-Some.which;
  over = sym over ∙ c.in-Some.is;
  end = refl;
  run = record { cluster = c.args.cluster; world = c.args.ran.world };
  is = refl;
  after = record { cluster = same; world = kept; events = next };
}

pub returns-in-None-clause-counts : goal.returns-in-None-clause-counts
returns-in-None-clause-counts c = λ n e. e
