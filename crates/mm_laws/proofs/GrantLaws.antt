-- Grants grow with entries.
use Rattle.std.proofs.Common.{ℕ, List}
use Rattle.mm_word.{specs.Pointer.{Pointer, IsWellFormed}, proofs.Rights.can_store-loads}
use Rattle.mm_model.specs.Image.{Image}
use Rattle.mm_model.specs.Reach.{Entries, Grants, CanTouch, CanWrite, Privileged, Entries.{All, These}, Grants.below}
use Rattle.mm_laws.specs.Grants.{Grow}

grows : (i : Image) (e f : Entries) → Grow e f → {g : ℕ} {q : Pointer} → Grants i e g q → Grants i f g q
grows i e f more (Grants.in_register s a b c) = Grants.in_register s a b c
grows i e f more (Grants.runs_by s a b c) = Grants.runs_by s a b c
grows i e f more (Grants.in_cell p w c h a b d) = Grants.in_cell p w c (grows i e f more h) a b d
grows i e f more (below p h a) = below p (grows i e f more h) a
grows i e f more (Grants.passed h w p r a b c d k) = Grants.passed h w p r (grows i e f more a) (grows i e f more b) c (grows i e f more d) k
grows i e f more (Grants.entered {g = g} p h a b c) = Grants.entered p (grows i e f more h) a (more g p b) c
grows i e f more (Grants.served h a b) = Grants.served h (grows i e f more a) b
grows i e f more (Grants.made p h a b) = Grants.made p (grows i e f more h) a b

pub grants_grow : (i : Image) (e f : Entries) → Grow e f → (g : ℕ) (q : Pointer) → Grants i e g q → Grants i f g q
grants_grow i e f more g q h = grows i e f more h

pub all_grant_most : (i : Image) (list : List (ℕ × Pointer)) (g : ℕ) (q : Pointer) → Grants i (These list) g q → Grants i All g q
all_grant_most i list g q h = grows i (These list) All (λ k p entered. tt) h

pub granted_all : (i : Image) (e : Entries) (g : ℕ) (q : Pointer) → Privileged i e g → IsWellFormed q → Grants i e g q
granted_all i e g q h fits = Grants.made h.by h.granted h.perm fits

pub writing_touches : (i : Image) (e : Entries) (g w : ℕ) → CanWrite i e g w → CanTouch i e g w
writing_touches i e g w h = record { by = h.by; granted = h.granted; loads = record { word = h.stores.word; right = can_store-loads h.by.perm h.stores.right; covers = h.stores.covers } }
