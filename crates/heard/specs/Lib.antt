pub mod Feeds
