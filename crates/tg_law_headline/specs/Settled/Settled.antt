-- What walks have settled of the streams that they walked.
use Rattle.std.specs.Prelude.{Contains}
use Rattle.tg_base.specs.declared.ids.Oid.{Oid}
use Rattle.tg_kind.specs.Meaning.{Meaning}
use Rattle.tg_law_headline.specs.Trims.Floors.{IsSettledFor}
use Rattle.tg_law_headline.specs.Floors.Confirming.{EachEndBySpareTrims}

module _ (m : Meaning) where
  -- Wherever a step comes to the end of a command's walks, each stream that was walked is settled up to the tail.
  abbrev pub WalksSettle : Type 0
  WalksSettle = EachEndBySpareTrims m (λ w c v. (o : Oid) → Contains v.oids o → IsSettledFor m w o v.tail c.stand.epoch)
