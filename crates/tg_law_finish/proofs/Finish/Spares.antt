-- A unit that stands in no chain of a position, and hasn't left the layout, has no other cell there than units of the chain have
-- told: all that it has was copied to it, and is settled.
use Rattle.std.proofs.Common.{◌≡◌, ◌⊎◌, ℕ, ◌+◌, ◌-◌, ◌<◌, ◌≤◌, length, Bool, true, false, refl, sym, ap, ◌∙◌, subst, inl, inr, arith, Some}
use Rattle.tg_base.specs.Clusters.{Header}
use Rattle.tg_base.specs.Layouts.{Layout}
use Rattle.tg_base.specs.Units.{has}
use Rattle.tg_base.specs.declared.cell.Cell.{Cell}
use Rattle.tg_base.specs.declared.ids.NodeId.{NodeId}
use Rattle.tg_base.specs.declared.msg.Msg.{Msg}
use Rattle.tg_base.specs.declared.msg.Msg.TheVariants as msg
use Rattle.tg_base.specs.declared.packet.Packet.{Packet}
use Rattle.tg_kind.specs.Meaning.{Meaning}
use Rattle.tg_protocol.specs.Words.{unit_id, cell_at}
use Rattle.tg_protocol.specs.Layouts.{chain_of}
use Rattle.tg_protocol.specs.Cells.{Place, place_in, unit_at, last_unit}
use Rattle.tg_protocol.specs.Units.{unit_ask}
use Rattle.tg_protocol.specs.Worlds.{World, start, unit}
use Rattle.tg_protocol.specs.Chosen.{IsDecided}
use Rattle.tg_protocol.specs.Runs.{Moves, Reaches, LawfulCommand}
use Rattle.tg_law_layouts.specs.Moves.After.{after}
use Rattle.tg_law_layouts.specs.Moves.Telling.{Claim, claimed, claim}
use Rattle.tg_law_layouts.specs.Layouts.Decisions.{IsOfDecided}
use Rattle.tg_law_layouts.proofs.Moves.Always.{lawful_give}
use Rattle.tg_law_layouts.proofs.Moves.Lists.{contained}
use Rattle.tg_law_layouts.proofs.Moves.Members.{Has}
use Rattle.tg_law_layouts.proofs.Moves.Moves.{AllGive}
use Rattle.tg_law_layouts.proofs.Requests.Told.{Tells}
use Rattle.tg_law_layouts.proofs.Layouts.Deciding.{K, known, one_layout}
use Rattle.tg_law_cells.specs.Cells.Chains.{IsJustified, GoesDown, GoesOn, GoesAside, FirstTold, ToldUpTo}
use Rattle.tg_law_cells.proofs.Cells.Befores.{has_at}
use Rattle.tg_law_cells.proofs.Cells.Jobs.{CellOk}
use Rattle.tg_law_cells.proofs.Cells.Justified.{ToldBy}
use Rattle.tg_law_cells.proofs.Cells.Settles.{Line, Rooted, Settled, along, end_settles, settled_stays}
use Rattle.tg_law_cells.proofs.Cells.Settling.{facts, roots, told_here, told_by}
use Rattle.tg_law_cells.proofs.Cells.Stores.{stores_are_justified}
use Rattle.tg_law_cells.proofs.Cells.Successors.{words}
use Rattle.tg_law_headline.proofs.Issues.Stored.{StoredBy, stored_hold}

same_unit : (a b : ℕ) → unit_id a ≡ unit_id b → a ≡ b
same_unit a b e = ap (λ (n : NodeId). n.num) e

not_both : (b : Bool) → b ≡ true → b ≡ false → ⊥
not_both b e f = grind arith

of_some : (x y : Claim) → Some x ≡ Some y → x ≡ y
of_some x y e = cc

ahead : (e f : ℕ) → e ≤ f → f ≡ e + (f - e)
ahead e f le = grind arith

same_claim : (e f p q : ℕ) (c d : Cell) → claim e p c ≡ claim f q d → (e ≡ f) × (p ≡ q) × (c ≡ d)
same_claim e f p q c d i = (ap (λ (k : Claim). k.epoch) (of_some _ _ i), ap (λ (k : Claim). k.pos) (of_some _ _ i), ap (λ (k : Claim). k.cell) (of_some _ _ i))

module _ (m : Meaning) (h : Header) (zs : Moves m) (r : Reaches m h zs (after m h zs)) where
  abbrev w : World m
  w = after m h zs

  give : AllGive m (LawfulCommand m) zs
  give = lawful_give m (start m h).cluster zs r.goes.lawful

  line : Line words (K m h zs) (after m h zs).packets
  line = facts m h zs r.header give (told_here m h zs r.header give)

  told_roots : (v : ℕ) (k : Claim) → Tells (after m h zs).packets v k → Rooted words (K m h zs) (after m h zs).packets v k.epoch k.pos k.cell
  told_roots = (roots m h zs r.header give (told_here m h zs r.header give)).tells

  rooted : (v e pos : ℕ) (c : Cell) → ToldBy (after m h zs).packets v e pos c → Rooted words (K m h zs) (after m h zs).packets v e pos c
  rooted v e pos c t =
      let x = told_roots v t.claim t.tells in
      subst (λ (y : Cell). Rooted words (K m h zs) (after m h zs).packets v e pos y) t.cell
      (subst (λ (n : ℕ). Rooted words (K m h zs) (after m h zs).packets v e n t.claim.cell) t.pos
      (record { layout = x.layout; decided = x.decided; up_to = (let a = x.up_to in let b = t.epoch in omega (arith, a, b)); how = x.how }))

  -- all units of a layout's chain have told a cell, or the last one has
  told_ok : (l : Layout) (pos : ℕ) (c : Cell) → FirstTold (after m h zs).packets (place_in l pos) c (length (place_in l pos).chain) ⊎ ToldUpTo (after m h zs).packets (last_unit (place_in l pos)) l.epoch pos c → CellOk (after m h zs).packets l pos c
  told_ok l pos c (inl t) = inl (λ i less. told_by (after m h zs).packets (unit_at (place_in l pos) i) l.epoch pos c (t i less))
  told_ok l pos c (inr t) = inr (told_by (after m h zs).packets (last_unit (place_in l pos)) l.epoch pos c t)

  -- of a layout that was decided
  module _ (q : Layout) (decided : IsOfDecided m (after m h zs) q) where
    same_layout : (l : Layout) → IsOfDecided m (after m h zs) l → l.epoch ≡ q.epoch → l ≡ q
    same_layout l d e = one_layout m h zs (after m h zs) r q.epoch l q (subst (λ (n : ℕ). IsDecided m (after m h zs) n l) e d) decided

    -- a unit of the chain has told what is copied
    abbrev pub ChainTold : ℕ → Cell → Type 0
    ChainTold pos c = (v : ℕ) × Has (chain_of q pos) v × ToldUpTo (after m h zs).packets v q.epoch pos c

    first_told : (pos : ℕ) (c : Cell) → ToldUpTo (after m h zs).packets (unit_at (place_in q pos) 0) q.epoch pos c → ChainTold pos c
    first_told pos c t = (unit_at (place_in q pos) 0, has_at (chain_of q pos) 0 (line.some q pos (known m h zs q.epoch q decided).0), t)

    on_told : (e pos : ℕ) (c : Cell) (to : NodeId) → GoesOn m (after m h zs) to e pos c → e ≡ q.epoch → ChainTold pos c
    on_told e pos c to g at =
        let d = g.down in
        let same = same_layout d.layout d.decided (sym (ap (λ (a : Place). a.epoch) d.at) ∙ (sym d.epoch_is ∙ at)) in
        let place : d.place ≡ place_in q pos = d.at ∙ (ap (λ (l : Layout). place_in l d.place.pos) same ∙ ap (λ (n : ℕ). place_in q n) (sym d.pos_is)) in
        first_told pos c (subst (λ (a : Place). ToldUpTo (after m h zs).packets (unit_at a 0) a.epoch a.pos c) place (d.told 0 g.past))

    aside_told : (e pos : ℕ) (c : Cell) → GoesAside m (after m h zs) e pos c → e ≡ q.epoch → ChainTold pos c
    aside_told e pos c g at = by (subst (λ (l : Layout). FirstTold (after m h zs).packets (place_in l pos) c (length (place_in l pos).chain) ⊎ ToldUpTo (after m h zs).packets (last_unit (place_in l pos)) l.epoch pos c) (same_layout g.layout g.decided (sym g.epoch_is ∙ at)) g.told)
      where
        some : 0 < length (chain_of q pos)
        some = line.some q pos (known m h zs q.epoch q decided).0

        by : FirstTold (after m h zs).packets (place_in q pos) c (length (place_in q pos).chain) ⊎ ToldUpTo (after m h zs).packets (last_unit (place_in q pos)) q.epoch pos c → ChainTold pos c
        by (inl t) = first_told pos c (t 0 some)
        by (inr t) = (last_unit (place_in q pos), has_at (chain_of q pos) (length (chain_of q pos) - 1) (let one = some in omega (arith, one)), t)

    pub copy_told : (x : Packet) (e pos : ℕ) (c : Cell) → Has (after m h zs).packets x → x.msg ≡ msg.Copy e pos c → e ≡ q.epoch → ChainTold pos c
    copy_told x e pos c sent is at = by (subst (λ (y : Msg). IsJustified m (after m h zs) x.to y) is (stores_are_justified m h zs (after m h zs) r x (contained (after m h zs).packets x sent)))
      where
        by : GoesOn m (after m h zs) x.to e pos c ⊎ GoesAside m (after m h zs) e pos c → ChainTold pos c
        by (inl g) = on_told e pos c x.to g at
        by (inr g) = aside_told e pos c g at

    module _ (u pos : ℕ) (d : Cell) (off : Has (chain_of q pos) u → ⊥) (stays : has q.gone u ≡ false) (up : (unit m (after m h zs) u).epoch ≤ q.epoch) (at : cell_at (unit m (after m h zs) u).cells pos ≡ Some d) where
      stored : StoredBy (after m h zs).packets u (unit m (after m h zs) u).epoch pos d
      stored = ((stored_hold m h zs) u).1 pos d at

      told : (e : ℕ) → stored.of ≤ e → ToldBy (after m h zs).packets u e pos d
      told e le = record {
        claim = record { epoch = stored.of; pos = pos; cell = d };
        tells = record { ask = stored.ask; answer = stored.answer; asked = stored.asked; answered = stored.answered; to_unit = stored.to_unit; from_unit = stored.from_unit; back = stored.back; number = stored.number; tells = ap (λ (y : Msg). claimed (unit_ask stored.ask.msg) y) stored.held ∙ stored.tells };
        epoch = le;
        pos = refl;
        cell = refl;
      }

      below : stored.of ≤ q.epoch
      below = let a = stored.up_to in omega (arith, a, up)

      -- it stood in no earlier chain of the position
      never_stood : (l : Layout) → IsOfDecided m (after m h zs) l → Has (chain_of l pos) u → stored.of ≡ l.epoch → ⊥
      never_stood l k there same = by (along words (K m h zs) (after m h zs).packets line (q.epoch - l.epoch) l q u pos d (known m h zs l.epoch l k).0 (known m h zs q.epoch q decided).0 (ahead l.epoch q.epoch (let le = below in omega (arith, le, same))) there (told l.epoch (omega (arith, same))))
        where
          by : Has (chain_of q pos) u ⊎ (has q.gone u ≡ true) → ⊥
          by (inl g) = off g
          by (inr g) = not_both (has q.gone u) g stays

      -- so nothing went down to it
      never_down : (e p : ℕ) (c : Cell) → GoesDown m (after m h zs) stored.ask.to e p c → e ≡ stored.of → p ≡ pos → ⊥
      never_down e p c g of is =
          let epoch = ap (λ (a : Place). a.epoch) g.at in
          let here = g.epoch_is in
          let same : u ≡ unit_at g.place g.index = same_unit u (unit_at g.place g.index) (sym stored.to_unit ∙ g.unit) in
          let chain = subst (λ (a : Place). Has a.chain (unit_at g.place g.index)) g.at (has_at g.place.chain g.index g.within) in
          never_stood g.layout g.decided (subst (λ (n : ℕ). Has (chain_of g.layout n) u) (sym g.pos_is ∙ is) (subst (λ (v : ℕ). Has (chain_of g.layout g.place.pos) v) (sym same) chain)) (omega (arith, epoch, here, of))

      -- it is settled, in this layout or an older one
      abbrev IsOld : Type 0
      IsOld = (l : Layout) × (l.epoch ≤ q.epoch) × Settled words (K m h zs) (after m h zs).packets l.epoch pos d

      aside : (e p : ℕ) (c : Cell) → GoesAside m (after m h zs) e p c → e ≡ stored.of → p ≡ pos → c ≡ d → IsOld
      aside e p c g of is same = (
        g.layout,
        (let a = g.epoch_is in let le = below in omega (arith, a, of, le)),
        subst (λ (y : Cell). Settled words (K m h zs) (after m h zs).packets g.layout.epoch pos y) same (subst (λ (n : ℕ). Settled words (K m h zs) (after m h zs).packets g.layout.epoch n c) is
            (end_settles words (K m h zs) (after m h zs).packets line g.layout p c (known m h zs g.layout.epoch g.layout g.decided).0 (λ t. rooted (last_unit (place_in g.layout p)) g.layout.epoch p c t) (told_ok g.layout p c g.told))),
      )

      old_by : (x : Msg) → IsJustified m (after m h zs) stored.ask.to x → claimed (unit_ask x) msg.Held ≡ claim stored.of pos d → IsOld
      unfolding claimed unit_ask
      old_by (msg.Write e p c) j i = let s = same_claim e stored.of p pos _ d i in absurd (never_down e p _ j s.0 s.1)
      old_by (msg.Fill e p) j i = let s = same_claim e stored.of p pos _ d i in absurd (never_down e p _ j s.0 s.1)
      old_by (msg.Copy e p c) (inl j) i = let s = same_claim e stored.of p pos c d i in absurd (never_down e p c j.down s.0 s.1)
      old_by (msg.Copy e p c) (inr j) i = let s = same_claim e stored.of p pos c d i in aside e p c j s.0 s.1 s.2
      old_by x j i = absurd cc

      old : IsOld
      old = old_by stored.ask.msg (stores_are_justified m h zs (after m h zs) r stored.ask (contained (after m h zs).packets stored.ask stored.asked)) stored.tells

      -- so no unit of the chain has told another
      pub agrees : (v : ℕ) (c : Cell) → Has (chain_of q pos) v → ToldUpTo (after m h zs).packets v q.epoch pos c → c ≡ d
      agrees v c there t =
          let o = old in
          let x = o.2 in
          let b = told_by (after m h zs).packets v q.epoch pos c t in
          sym b.cell ∙ settled_stays words (K m h zs) (after m h zs).packets line told_roots pos d o.0.epoch x q (known m h zs q.epoch q decided).0 (let a = x.up_to in let le = o.1 in omega (arith, a, le)) v b.claim there b.tells b.pos
