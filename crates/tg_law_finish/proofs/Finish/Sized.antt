-- In each world to which a run comes there are as many nodes of each role as the header declares.
use Rattle.std.proofs.Common.{◌≡◌, length, ◌∙◌, sym, subst}
use Rattle.std.proofs.lemmas.List.{length-map, length-replicate}
use Rattle.tg_base.specs.Clusters.{Header}
use Rattle.tg_base.specs.declared.ids.Role.{Role}
use Rattle.tg_base.specs.declared.ids.Role.TheVariants as role
use Rattle.tg_kind.specs.Meaning.{Meaning}
use Rattle.tg_protocol.specs.Words.{numbers}
use Rattle.tg_protocol.specs.Worlds.{World, start, count_of}
use Rattle.tg_protocol.specs.Runs.{Moves, Reaches, declared_of}
use Rattle.tg_law_layouts.specs.Moves.Configs.{Config, config}
use Rattle.tg_law_layouts.proofs.Moves.Members.{set_long}
use Rattle.tg_law_layouts.proofs.Moves.Moves.{Keeps, run_keeps}
use Rattle.tg_law_layouts.proofs.Moves.Reconfs.{numbers_long}

module _ (m : Meaning) where
  pub record IsSized (h : Header) (c : Config m) : Type 0 where
    pub units : length c.units ≡ h.units
    pub layouts : length c.layouts ≡ h.layouts
    pub seqrs : length c.seqrs ≡ h.seqs
    pub clients : length c.clients ≡ h.clients

  sizes_stay : (h : Header) → Keeps m (IsSized h)
  sizes_stay h c s = record {
    idle = s;
    unit = λ u p a less. record { units = set_long c.units u _ ∙ s.units; layouts = s.layouts; seqrs = s.seqrs; clients = s.clients };
    layout = λ l p a less. record { units = s.units; layouts = set_long c.layouts l _ ∙ s.layouts; seqrs = s.seqrs; clients = s.clients };
    seqr = λ k t i less. record { units = s.units; layouts = s.layouts; seqrs = set_long c.seqrs k _ ∙ s.seqrs; clients = s.clients };
    client = λ k t i less. record { units = s.units; layouts = s.layouts; seqrs = s.seqrs; clients = set_long c.clients k _ ∙ s.clients };
  }

  start_sized : (h : Header) → IsSized h (config m (start m h))
  unfolding start
  start_sized h = record {
    units = length-replicate h.units _;
    layouts = length-replicate h.layouts _;
    seqrs = length-map (numbers h.seqs 0) _ ∙ numbers_long h.seqs 0;
    clients = length-map (numbers h.clients 0) _ ∙ numbers_long h.clients 0;
  }

  pub all_sized : (h : Header) (ms : Moves m) (w : World m) → Reaches m h ms w → IsSized h (config m w)
  all_sized h ms w r = subst (λ (v : World m). IsSized h (config m v)) (sym r.goes.is) (run_keeps m (IsSized h) (sizes_stay h) ms (start m h) (start_sized h))

  pub counted : (h : Header) (w : World m) (r : Role) → IsSized h (config m w) → count_of m w r ≡ declared_of h r
  counted h w role.Unit s = s.units
  counted h w role.Layout s = s.layouts
  counted h w role.Seqr s = s.seqrs
  counted h w role.Client s = s.clients
