-- Laws of the record first, then that one pass decides, then its tests; each file says what it shows.
pub mod RecordLaws
pub mod OnePass
pub mod TestLaws
