-- Apply and the walk of the scene end within 32 levels.
use Rattle.std.proofs.Common.{◌≡◌, ℕ, zero, suc, ◌+◌, Bool, true, false, cond, ◌||◌, eqb, ◌≢◌, ◌⊎◌, List, [], ◌∷◌, ◌++◌, ℤ, ◌+ℤ◌, Some, None, Option, sym, refl, ap, ◌∙◌, subst, inl, inr, suc-add, fold, flat_map}
use Rattle.std.proofs.lemmas.Bool.Decides.{eqb_tells}
use Rattle.rules.specs.State.{Model, Surface, surface_at}
use Rattle.rules.specs.Run.{plain, at}
use Rattle.rules.specs.Apply.{apply_self, settle, apply_place, apply_in}
use Rattle.rules.specs.Walk.{Shown, walk_place, walk_held, walk_in}
use Rattle.bounds.specs.Forest.{parent_in, Fits}
use Rattle.bounds.specs.Member.{Member}
use Rattle.bounds.specs.Sound.{Orders}
use Rattle.bounds.proofs.Forests.{fits_all, fits_child, fits_none, fits_same, fits_more}
use Rattle.bounds.proofs.Steps.{Plain, Keeps}
use Rattle.bounds.proofs.Applied.{KeptBy, apply_self_keeps, settle_keeps, apply_place_keeps, apply_keeps}
use Rattle.bounds.proofs.Trees.{orders_alike}

abbrev pub OrdersOf : Plain → Type 0
OrdersOf r = Orders r.model.surfaces

-- each of these is p, or a child of p
abbrev Own : List (Option Surface) → ℕ → List ℕ → Type 0
Own t p cs = (c : ℕ) → Member c cs → (c ≡ p) ⊎ (parent_in t c ≡ Some p)

parents_kept : (n : ℕ) (r t : Plain) → Keeps n r t → (q : ℕ) → parent_in t.model.surfaces q ≡ parent_in r.model.surfaces q
parents_kept n r t k q = (k.surfaces q).parent

orders_kept : (n : ℕ) (r t : Plain) → Keeps n r t → OrdersOf r → OrdersOf t
orders_kept n r t k a = orders_alike r.model.surfaces t.model.surfaces k.places k.surfaces a

fits_kept : (n k p : ℕ) (r t : Plain) → Keeps n r t → Fits r.model.surfaces k p → Fits t.model.surfaces k p
fits_kept n k p r t h = fits_same r.model.surfaces t.model.surfaces (parents_kept n r t h) k p

own_kept : (n p : ℕ) (cs : List ℕ) (r t : Plain) → Keeps n r t → Own r.model.surfaces p cs → Own t.model.surfaces p cs
own_kept n p cs r t k h c m = elim (h c m) [ inl z ↦ inl z | inr z ↦ inr (parents_kept n r t k c ∙ z) ]

-- two ways to apply a child agree on what fits below
abbrev Agree : ℕ → (ℕ → Plain → Plain) → (ℕ → Plain → Plain) → Type 0
Agree n go go' = (c : ℕ) (r : Plain) → OrdersOf r → Fits r.model.surfaces n c → go c r ≡ go' c r

place_agrees : (n : ℕ) (go go' : ℕ → Plain → Plain) → Agree n go go' → (p : ℕ) (down : Bool) (r : Plain) (c : ℕ) → OrdersOf r → Fits r.model.surfaces (suc n) p
    → (c ≡ p) ⊎ (parent_in r.model.surfaces c ≡ Some p) → apply_place plain go p down r c ≡ apply_place plain go' p down r c
place_agrees n go go' h p down r c a f own =
    elim (eqb_tells c p) [
      | inl t ↦ rw t.0
      | inr t ↦ rw t.0 (elim (down || (at r c).sync) as (λ b. cond b (go c (settle plain c r)) (settle plain c r) ≡ cond b (go' c (settle plain c r)) (settle plain c r)) [
        | true ↦ (let u = settle plain c r in
            let k = settle_keeps c r in
            let below : Fits r.model.surfaces n c = elim own [ inl z ↦ absurd (t.1 z) | inr z ↦ fits_child r.model.surfaces n p c f z ] in
            h c u (orders_kept 0 r u k a) (fits_kept 0 n c r u k below))
        | false ↦ refl
      ])
    ]

children_agree : (n : ℕ) (go go' : ℕ → Plain → Plain) → Agree n go go' → KeptBy go → (p : ℕ) (down : Bool) (cs : List ℕ) (r : Plain) → OrdersOf r → Fits r.model.surfaces (suc n) p
    → Own r.model.surfaces p cs → fold (apply_place plain go p down) r cs ≡ fold (apply_place plain go' p down) r cs
children_agree n go go' h kept p down [] r a f own = refl
children_agree n go go' h kept p down (c ∷ cs) r a f own =
    let t = apply_place plain go p down r c in
    let k = apply_place_keeps go kept p down r c in
    children_agree n go go' h kept p down cs t (orders_kept 0 r t k a) (fits_kept 0 (suc n) p r t k f) (own_kept 0 p cs r t k (λ x m. own x (inr m)))
    ∙ ap (λ (u : Plain). fold (apply_place plain go' p down) u cs) (place_agrees n go go' h p down r c a f (own c (inl refl)))

-- one level more changes nothing
pub apply_enough : (n : ℕ) (down : Bool) (p : ℕ) (r : Plain) → OrdersOf r → Fits r.model.surfaces n p → apply_in plain (suc n) down p r ≡ apply_in plain n down p r
unfolding apply_in
apply_enough zero down p r a f = absurd (fits_none r.model.surfaces p f)
apply_enough (suc n) down p r a f =
    let t = apply_self plain p r in
    let k = apply_self_keeps p r in
    let b : OrdersOf t = orders_kept 0 r t k a in
    children_agree n (apply_in plain (suc n) true) (apply_in plain n true) (λ c u g e. apply_enough n true c u g e) (apply_keeps (suc n) true) p down (at t p).current.order t b
    (fits_kept 0 (suc n) p r t k f) (b.current p)

-- the walk of the scene
order_agrees : (go go' : ℕ → List Shown) (p : ℕ) (own : Shown) (cs : List ℕ) → ((c : ℕ) → Member c cs → c ≢ p → go c ≡ go' c) → flat_map (walk_place go p own) cs ≡ flat_map (walk_place go' p own) cs
order_agrees go go' p own [] h = refl
order_agrees go go' p own (c ∷ cs) h =
    let here : cond (eqb c p) (own ∷ []) (go c) ≡ cond (eqb c p) (own ∷ []) (go' c) = elim (eqb_tells c p) [ inl t ↦ rw t.0 | inr t ↦ rw t.0 (h c (inl refl) t.1) ] in
    rw here (ap (λ (xs : List Shown). cond (eqb c p) (own ∷ []) (go' c) ++ xs) (order_agrees go go' p own cs (λ x m. h x (inr m))))

held_agrees : (o : Option ℕ) (f g : ℕ → List Shown) → ((b : ℕ) → f b ≡ g b) → walk_held o f ≡ walk_held o g
held_agrees None f g h = refl
held_agrees (Some b) f g h = h b

pub walk_enough : (n : ℕ) (m : Model) (x y : ℤ) (p : ℕ) → Orders m.surfaces → Fits m.surfaces n p → walk_in (suc n) m x y p ≡ walk_in n m x y p
unfolding walk_in
walk_enough zero m x y p a f = absurd (fits_none m.surfaces p f)
walk_enough (suc n) m x y p a f =
    held_agrees (surface_at m p).current.hold _ _ λ b.
    order_agrees _ _ p (record { surface = p; buffer = b; x = x; y = y }) (surface_at m p).current.order λ c k ne.
    let below : Fits m.surfaces n c = elim (a.current p c k) [ inl z ↦ absurd (ne z) | inr z ↦ fits_child m.surfaces n p c f z ] in
    walk_enough n m (x +ℤ (surface_at m c).current.x) (y +ℤ (surface_at m c).current.y) c a below

-- any more levels change nothing
module _ (t : List (Option Surface)) (a : Orders t) where
  pub fits_here : (n p : ℕ) → Fits t (n + 32) p
  fits_here zero p = fits_all t a.forest a.places p
  fits_here (suc n) p = subst (λ k. Fits t k p) (sym (suc-add n 32)) (fits_more t (n + 32) p (fits_here n p))

pub apply_deep : (n : ℕ) (down : Bool) (p : ℕ) (r : Plain) → OrdersOf r → apply_in plain (n + 32) down p r ≡ apply_in plain 32 down p r
apply_deep zero down p r a = refl
apply_deep (suc n) down p r a =
    ap (λ k. apply_in plain k down p r) (suc-add n 32) ∙ (apply_enough (n + 32) down p r a (fits_here r.model.surfaces a n p) ∙ apply_deep n down p r a)

pub walk_deep : (n : ℕ) (m : Model) (x y : ℤ) (p : ℕ) → Orders m.surfaces → walk_in (n + 32) m x y p ≡ walk_in 32 m x y p
walk_deep zero m x y p a = refl
walk_deep (suc n) m x y p a =
    ap (λ k. walk_in k m x y p) (suc-add n 32) ∙ (walk_enough (n + 32) m x y p a (fits_here m.surfaces a n p) ∙ walk_deep n m x y p a)
