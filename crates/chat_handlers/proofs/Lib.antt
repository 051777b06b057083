pub mod LinesLemmas
pub mod RoomLemmas
pub mod ServingLemmas
pub mod TellingLemmas
pub mod TextsLemmas
