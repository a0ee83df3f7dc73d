-- Walks along edges.
use Rattle.std.proofs.Common.{ℕ, List, [], ◌∷◌, ◌++◌, refl, sym, subst}
use Rattle.std.specs.Prelude.{Contains}
use Rattle.mm_endless.specs.Graphs.{children, IsWalk, Leads}

module _ (g : List (List ℕ)) where
  pub leads_self : (a : ℕ) → Leads g a a
  leads_self a = record { nodes = []; walk = refl }

  walk_trans : (a b c : ℕ) (xs ys : List ℕ) → IsWalk g a xs b → IsWalk g b ys c → IsWalk g a (xs ++ ys) c
  walk_trans a b c [] ys e w = subst (λ v. IsWalk g v ys c) (sym e) w
  walk_trans a b c (x ∷ xs) ys w v = (w.0, walk_trans x b c xs ys w.1 v)

  pub leads_trans : (a b c : ℕ) → Leads g a b → Leads g b c → Leads g a c
  leads_trans a b c p q = record { nodes = p.nodes ++ q.nodes; walk = walk_trans a b c p.nodes q.nodes p.walk q.walk }

  pub leads_edge : (a b : ℕ) → Contains (children g a) b → Leads g a b
  leads_edge a b edge = record { nodes = b ∷ []; walk = (edge, refl) }

  -- what no edge leaves, no walk leaves
  module _ (P : ℕ → Type 0) (kept : (a c : ℕ) → P a → Contains (children g a) c → P c) where
    stays_walk : (a b : ℕ) (nodes : List ℕ) → IsWalk g a nodes b → P a → P b
    stays_walk a b [] e h = subst P e h
    stays_walk a b (c ∷ nodes) w h = stays_walk c b nodes w.1 (kept a c h w.0)

    pub stays : (a b : ℕ) → Leads g a b → P a → P b
    stays a b l h = stays_walk a b l.nodes l.walk h
