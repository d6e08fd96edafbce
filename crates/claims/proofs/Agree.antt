-- Agreement, call by call: two answers that a promise allows for the same table and arguments are equal, and so is what they leave. Where 01 leaves open
-- which records a create or a load gives to new solids, and which a create, delete or load gives to space tiles, the tables agree but for these numbers.
-- Assumes nothing.
use Rattle.claims.specs.AgreeReads.{fresh_agrees, check_agrees, places_agree, view_placed, view_agrees, find_agrees, neighbours_agrees, search_agrees, enumerate_agrees, save_agrees}
use Rattle.claims.specs.AgreeReports.{density_agrees}
use Rattle.claims.specs.AgreePicture.{space_agrees}
use Rattle.claims.proofs.AgreeCreate.{create_agrees}
use Rattle.claims.proofs.AgreeDelete.{delete_agrees}
use Rattle.claims.proofs.AgreeLoad.{load_agrees}
use Rattle.claims.specs.Agree.{Agreement}

pub agreement : Agreement
agreement =
    record {
      fresh = fresh_agrees;
      check = check_agrees;
      view = view_agrees;
      place = places_agree;
      placed = view_placed;
      find = find_agrees;
      neighbours = neighbours_agrees;
      search = search_agrees;
      enumerate = enumerate_agrees;
      density = density_agrees;
      create = create_agrees;
      delete = delete_agrees;
      save = save_agrees;
      load = load_agrees;
      space = space_agrees;
    }
