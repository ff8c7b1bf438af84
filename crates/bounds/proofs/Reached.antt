-- From a new core on, every core is sound.
use Rattle.std.proofs.Common.{◌≡◌, ℕ, zero, suc, List, [], ◌∷◌, ◌++◌, replicate, sym, refl, ap, ◌∙◌, subst, arith, Option, None, unwrap_or}
use Rattle.rules.specs.declared.object.Object.{Object}
use Rattle.rules.specs.State.{Model, surface_of, Surface, most, no_surface, globals, empty}
use Rattle.rules.specs.Call.{Call, rule, after}
use Rattle.bounds.specs.Member.{Member, Once}
use Rattle.bounds.specs.Sound.{Sound, Orders, kind_in}
use Rattle.bounds.specs.Reached.{reached, EventsFit, SpansApart, DeepEnough, DepthSuffices}
use Rattle.bounds.proofs.Tables.{sum_ones, replicated}
use Rattle.bounds.proofs.Forests.{empty_forest, held_back_enough, descends_enough}
use Rattle.bounds.proofs.Spans.{no_spans}
use Rattle.bounds.proofs.Links.{kind_of}
use Rattle.std.proofs.lemmas.Option.{none-some}
use Rattle.bounds.proofs.Steps.{mark_one, one_most}
use Rattle.bounds.proofs.Trees.{orders_same}
use Rattle.bounds.proofs.Ruled.{rule_sound, rule_events}
use Rattle.bounds.proofs.Depth.{apply_deep, walk_deep}
use Rattle.rules.specs.Table.{record_at}

-- objects among which there is no sub-surface object
abbrev NoSubsurface : List (Option Object) → Type 0
NoSubsurface os = (k : ℕ) → surface_of (kind_in os k) ≡ None

nobody : (n : ℕ) → NoSubsurface (replicate n None)
nobody n k = ap (λ o. surface_of (kind_of o)) (replicated None n k)

both : (os ps : List (Option Object)) → NoSubsurface os → NoSubsurface ps → NoSubsurface (os ++ ps)
both [] ps h k j = k j
both (o ∷ os) ps h k zero = h 0
both (o ∷ os) ps h k (suc j) = both os ps (λ i. h (suc i)) k j

own_globals : (client : ℕ) → NoSubsurface (globals client)
own_globals client zero = refl
own_globals client (suc zero) = refl
own_globals client (suc (suc zero)) = refl
own_globals client (suc (suc (suc zero))) = refl
own_globals client (suc (suc (suc (suc k)))) = nobody 252 k

all_globals : NoSubsurface (globals 0 ++ globals 1 ++ globals 2 ++ globals 3)
all_globals =
    both (globals 0 ++ globals 1 ++ globals 2) (globals 3)
    (both (globals 0 ++ globals 1) (globals 2) (both (globals 0) (globals 1) (own_globals 0) (own_globals 1)) (own_globals 2)) (own_globals 3)

-- a new core
none_at : (p : ℕ) → record_at no_surface (replicate most None) p ≡ no_surface
none_at p = ap (λ o. unwrap_or o no_surface) (replicated None most p)

empty_orders : Orders (replicate most None)
empty_orders =
    record {
      places = refl;
      forest = empty_forest;
      pending = λ q c m. absurd (subst (λ (s : Surface). Member c s.pending.order) (none_at q) m);
      current = λ q c m. absurd (subst (λ (s : Surface). Member c s.current.order) (none_at q) m);
      once = λ q. subst (λ (s : Surface). Once s.pending.order) (sym (none_at q)) tt;
    }

empty_sound : (size : ℕ) → Sound (empty size)
empty_sound size =
    record {
      tree = record {
        orders = empty_orders;
        linked = λ p q e n. none-some q (sym (sym e ∙ ap (λ (s : Surface). s.parent) (none_at p)));
        inert = λ k p e. absurd (none-some p (sym (all_globals k) ∙ ap surface_of e));
        known = λ k p e. absurd (none-some p (sym (all_globals k) ∙ e));
      };
      spans = no_spans (empty size).size most;
      glass = omega (arith, sum_ones mark_one (λ s. one_most s.current.mark) (replicate most None));
      roots = record { once = tt; places = tt };
      callbacks = omega arith;
    }

after_sound : (calls : List Call) (m : Model) → Sound m → Sound (after m calls)
after_sound [] m a = a
after_sound (c ∷ calls) m a = after_sound calls (rule c m).next (rule_sound c m a)

reached_sound : (size : ℕ) (calls : List Call) → Sound (reached size calls)
reached_sound size calls = after_sound calls (empty size) (empty_sound size)

pub events_fit : EventsFit
events_fit size calls c = rule_events c (reached size calls) (reached_sound size calls)

pub spans_apart : SpansApart
spans_apart size calls = (reached_sound size calls).spans

deep_enough : (m : Model) → Orders m.surfaces → DeepEnough m
deep_enough m a =
    record {
      apply = λ n down p r h. apply_deep n down p r (orders_same m r.model h a);
      walk = λ n x y p. walk_deep n m x y p a;
      held_back = held_back_enough m a.forest a.places;
      descends = descends_enough m a.forest a.places;
    }

pub depth_suffices : DepthSuffices
depth_suffices size calls = deep_enough (reached size calls) (reached_sound size calls).tree.orders
