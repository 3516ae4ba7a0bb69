-- The names by the events.
mod Names
