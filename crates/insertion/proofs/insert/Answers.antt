-- The steps hand over: first room, the search, the walk, the raise, and what is kept. Assumes nothing.
use mathlib.Core.Path.{refl}
use Rattle.insertion.proofs.Inserting.{insert_find, insert_search, insert_walk, insert_raise, insert_forget, insert_add, insert_end, insert_kept}
use Rattle.insertion.proofs.insert.Goals as goal

pub first_with_room-target-requires : goal.first_with_room-target-requires
first_with_room-target-requires c =
    insert_find c.requires.placed c.requires.kept c.requires.n_bound refl c.due_of-first.ensures.0

pub find_path-requires : goal.find_path-requires
find_path-requires c =
    insert_search c.requires.placed c.requires.kept c.requires.n_bound refl c.due_of-first.ensures.0 c.first_with_room-target.ensures

pub walk-requires : goal.walk-requires
walk-requires c =
    insert_walk c.requires.placed c.requires.kept c.requires.n_bound refl c.due_of-first.ensures.0 c.first_with_room-target.ensures c.find_path.ensures

pub raise-requires : goal.raise-requires
raise-requires c =
    insert_raise c.requires.placed c.requires.kept c.requires.n_bound refl c.due_of-first.ensures.0 c.first_with_room-target.ensures c.find_path.ensures c.walk.ensures

pub forget-requires-clause-can : goal.forget-requires-clause-can
forget-requires-clause-can c =
    insert_forget c.requires.placed c.requires.kept c.requires.n_bound refl c.due_of-first.ensures.0 c.first_with_room-target.ensures c.find_path.ensures c.walk.ensures

pub add_place-requires : goal.add_place-requires
add_place-requires c =
    insert_add c.requires.placed c.requires.kept c.requires.n_bound refl c.due_of-first.ensures.0 c.first_with_room-target.ensures c.find_path.ensures c.walk.ensures

pub returns : goal.returns
returns c = record { inserted = insert_end c.requires.placed c.requires.kept c.requires.n_bound refl c.due_of-first.ensures.0 c.first_with_room-target.ensures c.find_path.ensures c.walk.ensures c.raise.ensures c.walk.auto.holds c.raise.auto.prices refl; kept = insert_kept c.requires.placed c.requires.kept c.requires.n_bound refl c.due_of-first.ensures.0 c.first_with_room-target.ensures c.find_path.ensures c.walk.ensures c.add_place.ensures c.forget.ensures c.forget.auto.dist }
