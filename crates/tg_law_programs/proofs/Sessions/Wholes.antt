-- A node's run over a text is its session: line by line, and input by input.
use Rattle.std.proofs.Common.{◌≡◌, ℕ, suc, List, [], ◌∷◌, ◌++◌, refl, sym, ap, ◌∙◌}
use Rattle.std.specs.Prelude.{map}
use Rattle.std.specs.List.{flat_map}
use Rattle.tg_base.specs.declared.ids.NodeId.{NodeId}
use Rattle.tg_base.specs.declared.packet.Packet.{Packet}
use Rattle.tg_model.specs.Kinds.{NoteOf}
use Rattle.tg_trace.specs.Transcripts.{Reply}
use Rattle.tg_node_state.specs.Nodes.{Node, NodeTurn, node_step}
use Rattle.tg_any.specs.AllKinds.{all_kinds}
use Rattle.tg_node.specs.Replies.{reply_in}
use Rattle.tg_node.specs.Sessions.{AnyInput, Deed, Session, inputs_of, steps, plays, plays_lines, session, opening}
use Rattle.tg_law_programs.specs.Sessions.Sessions.{Said, after, given, sends_of, says_of, said_by}
use Rattle.tg_law_programs.specs.Sessions.Whole.{inputs_in, said_in_reply, SessionIsNode}

no_more : {X : Type 0} → (xs : List X) → xs ++ [] ≡ xs
no_more [] = refl
no_more (x ∷ xs) = ap (λ ys. x ∷ ys) (no_more xs)

in_three : {X : Type 0} → (xs ys zs : List X) → (xs ++ ys) ++ zs ≡ xs ++ (ys ++ zs)
in_three [] ys zs = refl
in_three (x ∷ xs) ys zs = ap (λ us. x ∷ us) (in_three xs ys zs)

mapped_in_two : {X Y : Type 0} → (f : X → Y) (xs ys : List X) → map f (xs ++ ys) ≡ map f xs ++ map f ys
mapped_in_two f [] ys = refl
mapped_in_two f (x ∷ xs) ys = ap (λ zs. f x ∷ zs) (mapped_in_two f xs ys)

-- a reply's event says nothing of what was said
said_again : (n : NodeId) (event : ℕ) (xs : List (NoteOf all_kinds)) → map (said_in_reply n) (map (reply_in event n.num) xs) ≡ map (said_by all_kinds n) xs
said_again n event [] = refl
said_again n event (x ∷ xs) = ap (λ ys. said_by all_kinds n x ∷ ys) (said_again n event xs)

given_in_two : {X : Type 0} → (f : NodeTurn all_kinds → List X) (n : Node all_kinds) (is js : List AnyInput) → given all_kinds f n (is ++ js) ≡ given all_kinds f n is ++ given all_kinds f (after all_kinds n is) js
unfolding given after
given_in_two f n [] js = refl
given_in_two f n (i ∷ is) js =
    ap (λ xs. f (node_step all_kinds n i) ++ xs) (given_in_two f (node_step all_kinds n i).now is js)
    ∙ sym (in_three (f (node_step all_kinds n i)) (given all_kinds f (node_step all_kinds n i).now is) (given all_kinds f (after all_kinds (node_step all_kinds n i).now is) js))

after_in_two : (n : Node all_kinds) (is js : List AnyInput) → after all_kinds n (is ++ js) ≡ after all_kinds (after all_kinds n is) js
unfolding after
after_in_two n [] js = refl
after_in_two n (i ∷ is) js = after_in_two (node_step all_kinds n i).now is js

-- what a session so far comes to by further inputs
pub record GoesOn (n : NodeId) (s e : Session) (is : List AnyInput) : Type 0 where
  pub node : e.node ≡ after all_kinds s.node is
  pub sent : e.sent ≡ s.sent ++ given all_kinds (sends_of all_kinds n) s.node is
  pub replies : map (said_in_reply n) e.replies ≡ map (said_in_reply n) s.replies ++ given all_kinds (says_of all_kinds n) s.node is

pub goes_nowhere : (n : NodeId) (s : Session) → GoesOn n s s []
unfolding given after
goes_nowhere n s = record { node = refl; sent = sym (no_more s.sent); replies = sym (no_more (map (said_in_reply n) s.replies)) }

pub plays_on : (n : NodeId) (event : ℕ) (is : List AnyInput) (s : Session) → GoesOn n s (plays n event is s) is
unfolding given after
plays_on n event [] s = goes_nowhere n s
plays_on n event (i ∷ is) s =
    let t = node_step all_kinds s.node i in
    let r = plays_on n event is (steps n event i s) in
    record {
      node = r.node;
      sent = r.sent ∙ in_three s.sent (sends_of all_kinds n t) (given all_kinds (sends_of all_kinds n) t.now is);
      replies = r.replies
          ∙ ap (λ (xs : List (Said all_kinds)). xs ++ given all_kinds (says_of all_kinds n) t.now is)
          (mapped_in_two (said_in_reply n) s.replies (map (reply_in event n.num) t.notes) ∙ ap (λ (xs : List (Said all_kinds)). map (said_in_reply n) s.replies ++ xs) (said_again n event t.notes))
          ∙ in_three (map (said_in_reply n) s.replies) (says_of all_kinds n t) (given all_kinds (says_of all_kinds n) t.now is);
    }

-- further inputs, and others after them
pub goes_on : (n : NodeId) (s m e : Session) (is js : List AnyInput) → GoesOn n s m is → GoesOn n m e js → GoesOn n s e (is ++ js)
goes_on n s m e is js a r =
    record {
      node = r.node ∙ ap (λ (x : Node all_kinds). after all_kinds x js) a.node ∙ sym (after_in_two s.node is js);
      sent = r.sent ∙ ap (λ (x : Node all_kinds). m.sent ++ given all_kinds (sends_of all_kinds n) x js) a.node
          ∙ ap (λ (xs : List Packet). xs ++ given all_kinds (sends_of all_kinds n) (after all_kinds s.node is) js) a.sent
          ∙ in_three s.sent (given all_kinds (sends_of all_kinds n) s.node is) (given all_kinds (sends_of all_kinds n) (after all_kinds s.node is) js)
          ∙ ap (λ (xs : List Packet). s.sent ++ xs) (sym (given_in_two (sends_of all_kinds n) s.node is js));
      replies = r.replies ∙ ap (λ (x : Node all_kinds). map (said_in_reply n) m.replies ++ given all_kinds (says_of all_kinds n) x js) a.node
          ∙ ap (λ (xs : List (Said all_kinds)). xs ++ given all_kinds (says_of all_kinds n) (after all_kinds s.node is) js) a.replies
          ∙ in_three (map (said_in_reply n) s.replies) (given all_kinds (says_of all_kinds n) s.node is) (given all_kinds (says_of all_kinds n) (after all_kinds s.node is) js)
          ∙ ap (λ (xs : List (Said all_kinds)). map (said_in_reply n) s.replies ++ xs) (sym (given_in_two (says_of all_kinds n) s.node is js));
    }

pub lines_on : (n : NodeId) (event : ℕ) (ds : List Deed) (s : Session) → GoesOn n s (plays_lines n event ds s) (inputs_in n ds)
lines_on n event [] s = goes_nowhere n s
lines_on n event (d ∷ ds) s =
    let m = plays n event (inputs_of n d) s in
    goes_on n s m (plays_lines n (suc event) ds m) (inputs_of n d) (inputs_in n ds) (plays_on n event (inputs_of n d) s) (lines_on n (suc event) ds m)

pub session_is_node : SessionIsNode
session_is_node h n ds = let g = lines_on n 1 ds (opening h n) in record { node = g.node; sent = g.sent; replies = g.replies }
