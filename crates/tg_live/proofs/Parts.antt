-- Parts of a live run, one after another.
use Rattle.std.proofs.Common.{◌≡◌, ◌∙◌, ◌<◌, ◌≤◌, List, [], ◌∷◌, ◌++◌, Option, Some, None, refl, sym, subst, append_assoc}
use Rattle.std.proofs.lemmas.List.{append-nil}
use Rattle.tg_base.specs.Clusters.{Header}
use Rattle.tg_base.specs.declared.fault.Which.{Which}
use Rattle.tg_base.specs.declared.fault.Which.TheVariants as which
use Rattle.tg_io.specs.Acts.{Comes}
use Rattle.tg_io.specs.Bytes.{Grows}
use Rattle.tg_io.specs.Links.{Adds}
use Rattle.tg_io.specs.declared.link.Arrival.{Arrival}
use Rattle.tg_io.proofs.Bytes.{grows_none}
use Rattle.tg_live.specs.declared.live.Live.{Live as Kept}
use Rattle.tg_live.specs.declared.live.Went.{Went}
use Rattle.tg_live.specs.Lives.{Answer, Live, LiveRan, goes, stops, came, heard, received, Follows, IsDrained, Then, Makes}
use Rattle.tg_live.specs.Kept.{Keeps, KeepsRan, Made}
use Rattle.tg_live.specs.Sends.{Carried}
use Rattle.tg_live.proofs.Keeping.{heard_keeps}
use Rattle.tg_live.proofs.Packets.{grows_by}

pub follows_on : (o : Option Which) (m : LiveRan) (rest : List Answer) (end : LiveRan) (P : Type 0) → o ≡ None → P → Follows o m rest end P
follows_on None m rest end P e p = p
follows_on (Some x) m rest end P e p = absurd cc

pub follows_not : (o : Option Which) (x : Which) (m : LiveRan) (P : Type 0) → o ≡ Some x → Follows o m [] m P
follows_not None x m P e = absurd cc
follows_not (Some y) x m P e = (refl, refl)

module _ (h : Header) (first : Carried) where
  -- a part that takes no answer
  pub made_alone : (f : Live → LiveRan) (now : Carried) (before after : Option (List Answer)) (l : Live) (w : Went) → after ≡ before → KeepsRan h first now w (f l) → Made (Makes f) h first now before after l w
  made_alone f now before after l w same kept = record { answers = []; end = f l; is = (refl, refl); kept = kept; handed = subst (λ (o : Option (List Answer)). Grows before [] o) (sym same) (grows_none before) }

  -- a limit has stopped the first part
  pub made_stops : (part next : List Answer → Live → LiveRan → Type 0) (now : Carried) (before after : Option (List Answer)) (l : Live) (w : Went) (x : Which) → w.stopped ≡ Some x
      → Made part h first now before after l w → Made (Then part next) h first now before after l w
  made_stops part next now before after l w x e m = record {
    answers = m.answers;
    end = m.end;
    is = record {
      taken = m.answers;
      rest = [];
      dealt = sym (append-nil m.answers);
      middle = m.end;
      before = m.is;
      after = follows_not m.end.stopped x m.end (next [] m.end.live m.end) (sym m.kept.stopped ∙ e);
    };
    kept = m.kept;
    handed = m.handed;
  }

  -- both parts were made
  pub made_both : (part next : List Answer → Live → LiveRan → Type 0) (now later : Carried) (before middle after : Option (List Answer)) (l : Live) (w v : Went) → w.stopped ≡ None
      → (m : Made part h first now before middle l w) → Made next h first later middle after m.end.live v → Made (Then part next) h first later before after l v
  made_both part next now later before middle after l w v e m n = record {
    answers = m.answers ++ n.answers;
    end = n.end;
    is = record {
      taken = m.answers;
      rest = n.answers;
      dealt = refl;
      middle = m.end;
      before = m.is;
      after = follows_on m.end.stopped m.end n.answers n.end (next n.answers m.end.live n.end) (sym m.kept.stopped ∙ e) n.is;
    };
    kept = n.kept;
    handed = grows_by before middle after m.answers n.answers m.handed n.handed;
  }

  -- a part that was made is one of another kind
  pub made_as : (part other : List Answer → Live → LiveRan → Type 0) (now : Carried) (before after : Option (List Answer)) (l : Live) (w : Went) → ((ans : List Answer) (end : LiveRan) → part ans l end → other ans l end)
      → Made part h first now before after l w → Made other h first now before after l w
  made_as part other now before after l w f m = record { answers = m.answers; end = m.end; is = f m.answers m.end m.is; kept = m.kept; handed = m.handed }

  -- Drains.

  -- a drain so far: what follows it ends the drain that began
  pub record Drains (l : Live) (now : Carried) (before handed : Option (List Answer)) (k : Kept) : Type 0 where
    pub answers : List Answer
    pub live : Live
    pub kept : Keeps h first now k live
    pub handed_so : Grows before answers handed
    pub more : (rest : List Answer) (end : LiveRan) → IsDrained rest live end → IsDrained (answers ++ rest) l end

  pub drains_start : (l : Live) (now : Carried) (handed : Option (List Answer)) (k : Kept) → Keeps h first now k l → Drains l now handed handed k
  drains_start l now handed k keeps = record { answers = []; live = l; kept = keeps; handed_so = grows_none handed; more = λ rest end d. d }

  more_answers : (d a : List Answer) (x : Answer) → (d ++ x ∷ []) ++ a ≡ d ++ x ∷ a
  more_answers d a x = append_assoc d (x ∷ []) a

  pub drains_next : (l : Live) (now later : Carried) (before handed after : Option (List Answer)) (k : Kept) (w : Went) (a : Arrival) (d : Drains l now before handed k) → d.live.received < 1000000
      → Adds handed (Some a) after → KeepsRan h first later w (came (received d.live a) a.to a.datagram) → w.stopped ≡ None → Drains l later before after w.live
  drains_next l now later before handed after k w a d few adds kept none = record {
    answers = d.answers ++ Some a ∷ [];
    live = (came (received d.live a) a.to a.datagram).live;
    kept = kept.live;
    handed_so = grows_by before handed after d.answers (Some a ∷ []) d.handed_so adds;
    more = λ rest end last. subst (λ (ans : List Answer). IsDrained ans l end) (sym (more_answers d.answers rest (Some a)))
        (d.more (Some a ∷ rest) end (few, follows_on _ _ rest end (IsDrained rest (came (received d.live a) a.to a.datagram).live end) (sym kept.stopped ∙ none) last));
  }

  pub drains_stops : (l : Live) (now later : Carried) (before handed after : Option (List Answer)) (k : Kept) (w : Went) (a : Arrival) (x : Which) (d : Drains l now before handed k) → d.live.received < 1000000
      → Adds handed (Some a) after → KeepsRan h first later w (came (received d.live a) a.to a.datagram) → w.stopped ≡ Some x → Made IsDrained h first later before after l w
  drains_stops l now later before handed after k w a x d few adds kept some = record {
    answers = d.answers ++ Some a ∷ [];
    end = came (received d.live a) a.to a.datagram;
    is = d.more (Some a ∷ []) (came (received d.live a) a.to a.datagram)
        (few, follows_not _ x (came (received d.live a) a.to a.datagram) (IsDrained [] (came (received d.live a) a.to a.datagram).live (came (received d.live a) a.to a.datagram)) (sym kept.stopped ∙ some));
    kept = kept;
    handed = grows_by before handed after d.answers (Some a ∷ []) d.handed_so adds;
  }

  pub drains_ends : (l : Live) (now later : Carried) (before handed after : Option (List Answer)) (k : Kept) (w : Went) (d : Drains l now before handed k) → d.live.received < 1000000
      → Adds handed None after → later.sent ≡ now.sent → Adds now.acts (Comes None) later.acts → w.live ≡ k → w.stopped ≡ None → Made IsDrained h first later before after l w
  drains_ends l now later before handed after k w d few adds still act same none = record {
    answers = d.answers ++ None ∷ [];
    end = goes (heard d.live None);
    is = d.more (None ∷ []) (goes (heard d.live None)) (few, refl, refl);
    kept = record { live = subst (λ (v : Kept). Keeps h first later v (heard d.live None)) (sym same) (heard_keeps h first now later k d.live None d.kept still act); stopped = none };
    handed = grows_by before handed after d.answers (None ∷ []) d.handed_so adds;
  }

  pub drains_limit : (l : Live) (now : Carried) (before handed : Option (List Answer)) (k : Kept) (w : Went) (d : Drains l now before handed k) → 1000000 ≤ d.live.received
      → w.live ≡ k → w.stopped ≡ Some which.Datagrams → Made IsDrained h first now before handed l w
  drains_limit l now before handed k w d many same stopped = record {
    answers = d.answers;
    end = stops d.live which.Datagrams;
    is = subst (λ (ans : List Answer). IsDrained ans l (stops d.live which.Datagrams)) (append-nil d.answers) (d.more [] (stops d.live which.Datagrams) (many, refl));
    kept = record { live = subst (λ (v : Kept). Keeps h first now v d.live) (sym same) d.kept; stopped = stopped };
    handed = d.handed_so;
  }
