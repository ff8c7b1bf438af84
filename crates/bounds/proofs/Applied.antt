-- Commit, apply and set_desync leave the tree as it is.
use Rattle.std.proofs.Common.{◌≡◌, ℕ, zero, suc, ◌+◌, ◌≤◌, Bool, true, false, cond, ◌||◌, eqb, List, [], ◌∷◌, length, Some, None, Option, refl, ap, inl, inr, arith, length-set, option_map, get_or, fold}
use Rattle.std.specs.List.{push}
use Rattle.std.proofs.lemmas.List.{length_push}
use Rattle.std.proofs.lemmas.Bool.{cond_both}
use Rattle.std.specs.Option.{option_len}
use Rattle.rules.specs.declared.attach.Attach.{Attach}
use Rattle.rules.specs.declared.attach.Attach.TheVariants.{Nothing, Null, Buffer as Held}
use Rattle.rules.specs.declared.stage.Stage.TheVariants.{Pending, Cached, Current}
use Rattle.model.specs.declared.event.Event.{Event}
use Rattle.rules.specs.State.{Surface, Waiting, no_surface, buffer_at}
use Rattle.rules.specs.Setters.{with_attach, with_cached, with_hold, with_mark, with_order, with_position, with_sync, with_waiting}
use Rattle.rules.specs.Run.{plain, at, edit, release}
use Rattle.rules.specs.Hold.{end_cached, end_current, held}
use Rattle.rules.specs.Callback.{advance}
use Rattle.rules.specs.Tree.{held_back}
use Rattle.rules.specs.Apply.{replace, take_cached, restack, apply_self, settle, apply_place, apply_in, apply_free, cache, take_pending, commit, desync}
use Rattle.bounds.proofs.Tables.{changed_related, changed_sum}
use Rattle.bounds.proofs.Steps.{Plain, LinkedAlike, alike_same, cached_one, cached_most, mark_one, cache_one, sent_living, Keeps, keeps_same, keeps_then, edit_keeps, sent_keeps, advance_keeps}

-- what a surface is once its cached attach has become current
abbrev replacing : Surface → Surface
replacing s = with_cached Nothing (with_mark None (with_hold (held s.cached) s))

abbrev with_spent : List Waiting → List Event → Plain → Plain
with_spent ws es r = record { model = with_waiting ws r.model; events = es }

-- apply 1: what was cached pays for the event, and what was marked for the wait
replaced : (p : ℕ) (r : Plain) (ws : List Waiting) (es : List Event) → length es ≤ length r.events + 1 → length ws ≤ length r.model.waiting + mark_one (at r p)
    → cache_one (at r p) ≡ 1 → Keeps 0 r (edit p replacing (with_spent ws es r))
replaced p r ws es v w c =
    let t = r.model.surfaces in
    record {
      places = length-set t p (option_map replacing (get_or t p None));
      surfaces = changed_related no_surface LinkedAlike alike_same t p replacing (record { id = refl; parent = refl; object = refl; pending = refl; current = inl refl });
      buffers = refl;
      objects = refl;
      size = refl;
      roots = refl;
      callbacks = refl;
      glass = omega (arith, changed_sum no_surface mark_one refl t p replacing, w);
      spends = omega (arith, changed_sum no_surface cache_one refl t p replacing, v, c);
    }

end_keeps : (p : ℕ) (r : Plain) (h o : Option ℕ) → (at r p).current.mark ≡ o → cache_one (at r p) ≡ 1 → Keeps 0 r (edit p replacing (end_current plain h o r))
end_keeps p r None o e c = replaced p r r.model.waiting r.events (omega arith) (omega arith) c
end_keeps p r (Some b) None e c =
    let f = buffer_at r.model b in
    sent_living (λ (t : Plain). Keeps 0 r (edit p replacing t)) (release f.client) f.id r
    (replaced p r r.model.waiting r.events (omega arith) (omega arith) c)
    (λ i. replaced p r r.model.waiting (push r.events (release f.client i)) (omega (arith, length_push r.events (release f.client i))) (omega arith) c)
end_keeps p r (Some b) (Some k) e c =
    let w : Waiting = record { buffer = b; mark = k } in
    replaced p r (push r.model.waiting w) r.events (omega arith) (omega (arith, length_push r.model.waiting w, ap option_len e)) c

replace_keeps : (p : ℕ) (r : Plain) → cache_one (at r p) ≡ 1 → Keeps 0 r (replace plain p r)
replace_keeps p r c = end_keeps p r (at r p).current.hold (at r p).current.mark refl c

take_cached_keeps : (a : Attach) (p : ℕ) (r : Plain) → (at r p).cached ≡ a → Keeps 0 r (take_cached plain a p r)
take_cached_keeps Nothing p r e = keeps_same r
take_cached_keeps Null p r e = replace_keeps p r (ap cached_one e)
take_cached_keeps (Held b) p r e = replace_keeps p r (ap cached_one e)

restack_keeps : (p : ℕ) (r : Plain) → Keeps 0 r (restack plain p r)
restack_keeps p r =
    edit_keeps 0 p (λ s. with_order s.pending.order s) r (record { id = refl; parent = refl; object = refl; pending = refl; current = inr refl }) (omega arith) (omega arith)

pub apply_self_keeps : (p : ℕ) (r : Plain) → Keeps 0 r (apply_self plain p r)
unfolding apply_self
apply_self_keeps p r =
    let t = take_cached plain (at r p).cached p r in
    let u = advance p Cached Current t in
    keeps_then 0 0 r u (restack plain p u) (keeps_then 0 0 r t u (take_cached_keeps (at r p).cached p r refl) (advance_keeps p Cached Current t)) (restack_keeps p u)

-- apply 4
pub settle_keeps : (c : ℕ) (r : Plain) → Keeps 0 r (settle plain c r)
settle_keeps c r =
    edit_keeps 0 c (λ s. with_position s.pending.x s.pending.y s) r (record { id = refl; parent = refl; object = refl; pending = refl; current = inl refl }) (omega arith) (omega arith)

abbrev pub KeptBy : (ℕ → Plain → Plain) → Type 0
KeptBy go = (c : ℕ) (r : Plain) → Keeps 0 r (go c r)

pub apply_place_keeps : (go : ℕ → Plain → Plain) → KeptBy go → (p : ℕ) (down : Bool) (r : Plain) (c : ℕ) → Keeps 0 r (apply_place plain go p down r c)
apply_place_keeps go h p down r c =
    let t = settle plain c r in
    cond_both (eqb c p) r (cond (down || (at r c).sync) (go c t) t) (λ (u : Plain). Keeps 0 r u) (λ _. keeps_same r) λ _.
    cond_both (down || (at r c).sync) (go c t) t (λ (u : Plain). Keeps 0 r u) (λ _. keeps_then 0 0 r t (go c t) (settle_keeps c r) (h c t)) (λ _. settle_keeps c r)

apply_children_keeps : (go : ℕ → Plain → Plain) → KeptBy go → (p : ℕ) (down : Bool) (cs : List ℕ) (r : Plain) → Keeps 0 r (fold (apply_place plain go p down) r cs)
apply_children_keeps go h p down [] r = keeps_same r
apply_children_keeps go h p down (c ∷ cs) r =
    let t = apply_place plain go p down r c in
    keeps_then 0 0 r t (fold (apply_place plain go p down) t cs) (apply_place_keeps go h p down r c) (apply_children_keeps go h p down cs t)

pub apply_keeps : (n : ℕ) (down : Bool) (p : ℕ) (r : Plain) → Keeps 0 r (apply_in plain n down p r)
unfolding apply_in
apply_keeps zero down p r = keeps_same r
apply_keeps (suc n) down p r =
    let t = apply_self plain p r in
    let cs = (at t p).current.order in
    keeps_then 0 0 r t (fold (apply_place plain (apply_in plain n true) p down) t cs) (apply_self_keeps p r) (apply_children_keeps (apply_in plain n true) (apply_keeps n true) p down cs t)

apply_free_keeps : (down : Bool) (p : ℕ) (r : Plain) → Keeps 0 r (apply_free plain down p r)
apply_free_keeps down p r =
    cond_both (held_back r.model p) r (apply_in plain 32 down p r) (λ (t : Plain). Keeps 0 r t) (λ _. keeps_same r) (λ _. apply_keeps 32 down p r)

-- commit 1: an event, or one more that is cached
abbrev caching : Surface → Surface
caching s = with_attach Nothing (with_cached s.pending.attach s)

cached_run : (p : ℕ) (r : Plain) (es : List Event) → length es ≤ length r.events + cache_one (at r p) → Keeps 1 r (edit p caching (with_spent r.model.waiting es r))
cached_run p r es v =
    let t = r.model.surfaces in
    record {
      places = length-set t p (option_map caching (get_or t p None));
      surfaces = changed_related no_surface LinkedAlike alike_same t p caching (record { id = refl; parent = refl; object = refl; pending = refl; current = inl refl });
      buffers = refl;
      objects = refl;
      size = refl;
      roots = refl;
      callbacks = refl;
      glass = omega (arith, changed_sum no_surface mark_one refl t p caching);
      spends = omega (arith, changed_sum no_surface cache_one refl t p caching, v, cached_most (at r p).pending.attach);
    }

end_cached_keeps : (p : ℕ) (r : Plain) (a : Attach) → (at r p).cached ≡ a → Keeps 1 r (edit p caching (end_cached plain a r))
end_cached_keeps p r Nothing e = cached_run p r r.events (omega arith)
end_cached_keeps p r Null e = cached_run p r r.events (omega arith)
end_cached_keeps p r (Held b) e =
    let f = buffer_at r.model b in
    sent_living (λ (t : Plain). Keeps 1 r (edit p caching t)) (release f.client) f.id r
    (cached_run p r r.events (omega arith))
    (λ i. cached_run p r (push r.events (release f.client i)) (omega (arith, length_push r.events (release f.client i), ap cached_one e)))

cache_keeps : (p : ℕ) (r : Plain) → Keeps 1 r (cache plain p r)
cache_keeps p r = end_cached_keeps p r (at r p).cached refl

pub take_pending_keeps : (a : Attach) (p : ℕ) (r : Plain) → Keeps 1 r (take_pending plain a p r)
take_pending_keeps Nothing p r = sent_keeps 1 r r refl (omega arith)
take_pending_keeps Null p r = cache_keeps p r
take_pending_keeps (Held b) p r = cache_keeps p r

pub commit_keeps : (p : ℕ) (r : Plain) → Keeps 1 r (commit plain p r)
unfolding commit
commit_keeps p r =
    let t = take_pending plain (at r p).pending.attach p r in
    let u = advance p Pending Cached t in
    keeps_then 1 0 r u (apply_free plain false p u) (keeps_then 1 0 r t u (take_pending_keeps (at r p).pending.attach p r) (advance_keeps p Pending Cached t)) (apply_free_keeps false p u)

pub desync_begins : (p : ℕ) (r : Plain) → Keeps 0 r (edit p (with_sync false) r)
desync_begins p r =
    edit_keeps 0 p (with_sync false) r (record { id = refl; parent = refl; object = refl; pending = refl; current = inl refl }) (omega arith) (omega arith)

pub desync_keeps : (p : ℕ) (r : Plain) → Keeps 0 r (desync plain p r)
unfolding desync
desync_keeps p r =
    let t = edit p (with_sync false) r in
    cond_both (at r p).sync (apply_free plain true p t) r (λ (u : Plain). Keeps 0 r u)
    (λ _. keeps_then 0 0 r t (apply_free plain true p t) (desync_begins p r) (apply_free_keeps true p t)) (λ _. keeps_same r)
